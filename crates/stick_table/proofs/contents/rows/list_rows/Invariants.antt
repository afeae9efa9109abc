use Rattle.stick_table.specs.Replies.{listed_rows}
use Rattle.std.proofs.Common.{◌≡◌, drop, ◌++◌}
use Rattle.stick_table.proofs.contents.rows.list_rows.Given as goal

abbrev pub invariant-loop-entry : goal.invariant-loop-entry
invariant-loop-entry l = l.rows.items ++ listed_rows l.columns l.tickets l.clock l.choice (drop l.entry-index l.records) ≡ listed_rows l.columns l.tickets l.clock l.choice l.records
