use Rattle.stick_pooled.proofs.PlaceLemmas.{new-shown, new-sound}
use Rattle.stick_pooled.proofs.ticket_book.TicketBook.new.Goals as goal

pub invariant_of-result : goal.invariant_of-result
invariant_of-result c = new-sound c.in_ok-new.field-0 c.args.capacity c.in_ok-new.ensures

pub returns : goal.returns
returns c = new-shown c.in_ok-new.field-0 c.args.capacity c.in_ok-new.ensures
