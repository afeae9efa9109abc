use Rattle.std.proofs.Common.{map, refl, inr}
use Rattle.table_cli.specs.OldestFirst.{row_of}
use Rattle.table_cli.proofs.oldest_first.push_shard.Goals as goal

pub returns-in-Ok-push_rows-clause-ok : goal.returns-in-Ok-push_rows-clause-ok
returns-in-Ok-push_rows-clause-ok g c =
    let all = c.in-Ok-oldest_first.all.items in
    (map row_of all, (c.in-Ok.table.now, all, c.in-Ok.ensures.holds, c.in-Ok-oldest_first.ensures.ok, refl), c.in-Ok-push_rows.ensures)

pub returns-in-Err-oldest_first-clause-err : goal.returns-in-Err-oldest_first-clause-err
returns-in-Err-oldest_first-clause-err g c = inr (c.args.shard, c.in-Ok.table.now, c.in-Err-oldest_first.refusal, c.requires.shard, c.in-Ok.ensures.holds, c.in-Err-oldest_first.ensures.err, c.of_refusal.ensures)
