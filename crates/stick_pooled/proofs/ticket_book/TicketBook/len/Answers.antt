use Rattle.std.proofs.Common.{length, sym, ap, ◌∙◌}
use Rattle.stick_pooled.specs.Tickets.{Tickets}
use Rattle.stick_pooled.proofs.PlaceLemmas.{length-is}
use Rattle.stick_pooled.proofs.ticket_book.TicketBook.len.Goals as goal

pub returns : goal.returns
returns c = let p = c.self.inside.places in c.len.ensures.count ∙ sym (length-is p.slots c.self.invariant.distinct) ∙ ap (λ (t : Tickets). length t.tickets) c.self.view_is
