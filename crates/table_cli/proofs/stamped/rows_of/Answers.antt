use Rattle.std.proofs.Common.{◌∙◌, ap}
use Rattle.table_cli.specs.OldestFirst.{beside}
use Rattle.table_cli.proofs.OldestLemmas.{listed_stamped}
use Rattle.table_cli.proofs.stamped.rows_of.Goals as goal

pub returns-in-Ok-clause-ok : goal.returns-in-Ok-clause-ok
returns-in-Ok-clause-ok c =
    let made = c.in-Ok.ensures ∙ ap (beside c.in-Rows.rows) c.records.ensures in
    listed_stamped c.args.table.now.now _ _ _ _ _ _ c.in_ok-reply.ensures.ok c.in-Rows.is made
