use Rattle.std.proofs.Common.{◌≡◌, drop}
use Rattle.stick_model.specs.State.{record_at}
use Rattle.stick_table.proofs.contents.records.find.Given as goal

abbrev pub invariant-loop-entry : goal.invariant-loop-entry
invariant-loop-entry l = record_at l.key (drop l.entry-index l.records) ≡ record_at l.key l.records
