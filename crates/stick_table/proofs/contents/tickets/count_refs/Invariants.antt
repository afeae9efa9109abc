use Rattle.std.proofs.Common.{◌≡◌, ◌≤◌, take}
use Rattle.stick_model.specs.State.{refs}
use Rattle.stick_table.proofs.contents.tickets.count_refs.Given as goal

abbrev pub invariant-loop-held : goal.invariant-loop-held
invariant-loop-held l = record { count : l.count ≡ refs l.key (take l.held-index l.tickets); within : l.count ≤ l.held-index }
