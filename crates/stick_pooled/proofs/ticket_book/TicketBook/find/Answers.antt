use Rattle.std.proofs.Common.{sym, ap, ◌∙◌}
use Rattle.stick_pooled.specs.Tickets.{entry_of}
use Rattle.stick_pooled.proofs.PlaceLemmas.{find-is}
use Rattle.stick_pooled.proofs.ticket_book.TicketBook.find.Goals as goal

pub returns : goal.returns
returns c =
    let p = c.self.inside.places in
    c.copied.ensures ∙ c.get.ensures ∙ sym (find-is p.slots c.self.invariant.distinct c.args.ticket) ∙ ap (entry_of c.args.ticket) c.self.view_is
