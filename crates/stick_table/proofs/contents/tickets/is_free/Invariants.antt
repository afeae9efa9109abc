use Rattle.std.proofs.Common.{◌≡◌, drop}
use Rattle.stick_model.specs.State.{is_free}
use Rattle.stick_table.proofs.contents.tickets.is_free.Given as goal

abbrev pub invariant-loop-held : goal.invariant-loop-held
invariant-loop-held l = is_free l.slot (drop l.held-index l.tickets) ≡ is_free l.slot l.tickets
