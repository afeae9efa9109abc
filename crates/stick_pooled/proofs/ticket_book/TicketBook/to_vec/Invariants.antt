use Rattle.std.proofs.Common.{◌≡◌, ◌++◌, map}
use Rattle.stick_pooled.specs.Places.{ticket_in}
use Rattle.stick_pooled.proofs.ticket_book.TicketBook.to_vec.Given as goal

abbrev pub invariant-loop-number : goal.invariant-loop-number
invariant-loop-number l = l.tickets.items ++ map ticket_in l.number-iterator ≡ l.self.tickets
