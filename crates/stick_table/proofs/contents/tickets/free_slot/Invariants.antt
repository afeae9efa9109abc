use Rattle.std.proofs.Common.{◌≡◌, ℕ, ◌<◌, false}
use Rattle.stick_model.specs.State.{is_free}
use Rattle.stick_table.proofs.contents.tickets.free_slot.Given as goal

abbrev pub invariant-loop-slot : goal.invariant-loop-slot
invariant-loop-slot l = (k : ℕ) → k < l.slot → is_free k l.tickets ≡ false
