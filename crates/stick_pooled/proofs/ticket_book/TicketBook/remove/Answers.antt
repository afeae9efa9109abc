use Rattle.std.proofs.Common.{sym, ap, ◌∙◌}
use Rattle.stick_pooled.specs.Tickets.{Tickets, entry_of, without_ticket}
use Rattle.stick_pooled.proofs.PlaceLemmas.{find-is, after-remove}
use Rattle.stick_pooled.proofs.ticket_book.TicketBook.remove.Goals as goal

pub invariant_of-self : goal.invariant_of-self
invariant_of-self c = (after-remove c.self.inside.places c.remove.new.self c.args.ticket c.remove.result c.self.invariant c.remove.ensures.value c.remove.ensures.removed c.remove.ensures.absent).0

pub returns-clause-value : goal.returns-clause-value
returns-clause-value c = c.remove.ensures.value ∙ sym (find-is c.self.inside.places.slots c.self.invariant.distinct c.args.ticket) ∙ ap (entry_of c.args.ticket) c.self.view_is

pub returns-clause-removed : goal.returns-clause-removed
returns-clause-removed c =
    (after-remove c.self.inside.places c.remove.new.self c.args.ticket c.remove.result c.self.invariant c.remove.ensures.value c.remove.ensures.removed c.remove.ensures.absent).1
    ∙ ap (λ (t : Tickets). without_ticket t c.args.ticket) c.self.view_is
