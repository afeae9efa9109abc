use Rattle.std.proofs.Common.{◌≡◌, take}
use Rattle.stick_table.proofs.contents.records.copy_records.Given as goal

abbrev pub invariant-loop-entry : goal.invariant-loop-entry
invariant-loop-entry l = l.copy.items ≡ take l.entry-index l.records
