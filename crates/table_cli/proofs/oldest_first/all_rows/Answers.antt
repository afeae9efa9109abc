use Rattle.std.proofs.Common.{◌≡◌, ℕ, arith, subst}
use Rattle.table_cli.specs.OldestFirst.{ShowFirst}
use Rattle.table_cli.proofs.OldestLemmas.{shows_more}
use Rattle.table_cli.proofs.oldest_first.all_rows.Goals as goal

pub loop-shard-preserved : goal.loop-shard-preserved
loop-shard-preserved g c =
    let K = g.K.Keeper in
    let here = c.loop-shard.invariant in
    let shown = c.in-Ok.ensures.ok in
    record {
      shown = shows_more K.holds c.args.moment (K.state c.args.keeper.now) c.loop-shard.shard c.loop-shard.rows.items shown.0 _ here.shown shown.1 shown.2;
      within = omega (arith, here.end, c.loop-shard-test.true);
      end = here.end;
    }

pub returns-clause-ok : goal.returns-clause-ok
returns-clause-ok g c =
    let K = g.K.Keeper in
    let here = c.loop-shard.invariant in
    let all : c.loop-shard.shard ≡ K.parts c.args.keeper.now = omega (arith, here.within, here.end, c.loop-shard-test.false) in
    subst (λ (n : ℕ). ShowFirst K.holds c.args.moment (K.state c.args.keeper.now) n c.loop-shard.rows.items) all here.shown
