use Rattle.std.proofs.Common.{ℕ, List, [], ◌∷◌, Some, None, refl, sym, subst}
use Rattle.table_cli.specs.Shards.{AsksInTurn}
use Rattle.table_cli.proofs.ShardLemmas.{asks_shown, ends_here, one_shard}
use Rattle.table_cli.proofs.shards.ask_shards.Goals as goal

pub returns-in-Ok-clause-asks : goal.returns-in-Ok-clause-asks
returns-in-Ok-clause-asks g c =
    let K = g.K.Keeper in
    let reply = c.in-Ok.reply in
    let now = K.state c.ask_shard.new.keeper in
    let one = one_shard (K.parts c.args.keeper.now) c.shards.result c.in-Some.shard c.args.event c.in-Some.ensures c.shards.ensures.shards in (
      reply ∷ [],
      None,
      subst (λ (shards : List ℕ). AsksInTurn K.answers K.refuses c.args.event shards (K.state c.args.keeper.now) (reply ∷ []) None now) (sym one) (now, c.in-Ok.ensures.ok, refl),
      (refl, refl),
    )

pub returns-in-Some-clause-asks : goal.returns-in-Some-clause-asks
returns-in-Some-clause-asks g c =
    let K = g.K.Keeper in
    let one = one_shard (K.parts c.args.keeper.now) c.shards.result c.in-Some.shard c.args.event c.in-Some.ensures c.shards.ensures.shards in
    ([], Some c.in-Err.message, rw c.in-Err.ensures.err (ends_here K.answers K.refuses c.args.event _ _ _ c.in-Some.shard _ one c.in-Err.ensures.ends), refl)

pub returns-in-Ok-clause-rows : goal.returns-in-Ok-clause-rows
returns-in-Ok-clause-rows g c = asks_shown c.args.event c.in-Ok.reply c.in-Ok.ensures.answer
