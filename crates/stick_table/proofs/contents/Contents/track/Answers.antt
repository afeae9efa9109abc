use Rattle.std.proofs.Common.{◌<◌, ◌∙◌, ap, subst, arith, length, Option}
use Rattle.stick_model.specs.State.{State}
use Rattle.stick_model.specs.Step.{begun}
use Rattle.stick_model.specs.declared.rows.Ticket.{Ticket}
use Rattle.stick_table.proofs.TicketLemmas.{track-entered}
use Rattle.stick_table.proofs.contents.Contents.track.Goals as goal

pub returns-in-Some-clause-ok : goal.returns-in-Some-clause-ok
returns-in-Some-clause-ok c =
    let some : length c.self.inside.tickets.items < c.self.inside.spec.max_refs = omega arith in
    let left : length c.args.self.now.tickets < c.args.self.now.spec.max_refs = subst (λ (s : State). length s.tickets < s.spec.max_refs) c.self.view_is some in
    track-entered (begun c.args.self.now c.args.now) c.args.key.now c.args.slot c.in_ok-found.found c.in_ok-row.row c.in-Some.ticket c.enter.new.self left c.in_ok-found.ensures c.in_ok-row.ensures
    (c.in_ok-ticket.ensures.ok ∙ ap (λ (made : Option Ticket). let outcome : Option Ticket × State = (made, c.enter.new.self) in outcome) c.in-Some.is)
