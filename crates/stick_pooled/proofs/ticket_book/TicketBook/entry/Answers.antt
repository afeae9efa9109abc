use Rattle.std.proofs.Common.{IsSome, subst, sym, ap, ◌∙◌}
use Rattle.stick_pooled.specs.Tickets.{entry_of}
use Rattle.stick_pooled.proofs.PlaceLemmas.{find-is}
use Rattle.stick_pooled.proofs.ticket_book.TicketBook.entry.Goals as goal

pub value-requires : goal.value-requires
value-requires c =
    let p = c.self.inside.places in
    subst IsSome (ap (entry_of c.args.ticket) (sym c.self.view_is) ∙ find-is p.slots c.self.invariant.distinct c.args.ticket) c.requires

pub returns : goal.returns
returns c =
    let p = c.self.inside.places in
    ap (entry_of c.args.ticket) (sym c.self.view_is) ∙ find-is p.slots c.self.invariant.distinct c.args.ticket ∙ c.value.ensures
