use Rattle.std.proofs.Common.{◌≡◌, take}
use Rattle.stick_table.proofs.contents.tickets.copy_tickets.Given as goal

abbrev pub invariant-loop-held : goal.invariant-loop-held
invariant-loop-held l = l.copy.items ≡ take l.held-index l.tickets
