use Rattle.stick_model.specs.Filters.{is_matched}
use Rattle.std.proofs.Common.{◌≡◌, ◌≤◌, take, count_by}
use Rattle.stick_table.proofs.contents.filters.count_matching.Given as goal

abbrev pub invariant-loop-entry : goal.invariant-loop-entry
invariant-loop-entry l = record { count : l.count ≡ count_by (is_matched l.clock l.tickets l.choice l.tracked) (take l.entry-index l.records); within : l.count ≤ l.entry-index }
