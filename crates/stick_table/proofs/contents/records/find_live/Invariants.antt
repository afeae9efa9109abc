use Rattle.std.proofs.Common.{◌≡◌, drop, filter}
use Rattle.stick_model.specs.State.{record_at, stays}
use Rattle.stick_table.proofs.contents.records.find_live.Given as goal

abbrev pub invariant-loop-entry : goal.invariant-loop-entry
invariant-loop-entry l = record_at l.key (filter (stays l.clock l.tickets) (drop l.entry-index l.records)) ≡ record_at l.key (filter (stays l.clock l.tickets) l.records)
