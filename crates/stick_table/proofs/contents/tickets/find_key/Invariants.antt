use Rattle.std.proofs.Common.{◌≡◌, drop}
use Rattle.stick_model.specs.State.{key_of}
use Rattle.stick_table.proofs.contents.tickets.find_key.Given as goal

abbrev pub invariant-loop-held : goal.invariant-loop-held
invariant-loop-held l = key_of l.ticket (drop l.held-index l.tickets) ≡ key_of l.ticket l.tickets
