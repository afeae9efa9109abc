use Rattle.std.proofs.Common.{◌<◌, arith, length, refl, sym, subst, ap, ◌∙◌}
use Rattle.std.proofs.lemmas.List.{length-map}
use Rattle.stick_table.proofs.TicketLemmas.{track-entered}
use Rattle.stick_model.specs.State.{State}
use Rattle.stick_model.specs.Step.{begun, connected}
use Rattle.stick_model.specs.declared.replies.Reply.TheVariants.{Tracked}
use Rattle.stick_pooled.specs.Table.{with_key, tickets_of}
use Rattle.stick_pooled.proofs.TrackedLemmas.{given-out, given-row}
use Rattle.stick_pooled.proofs.StatesLemmas.{now_is}
use Rattle.stick_pooled.proofs.StickTable.track_twice.Goals as goal

pub tracked_row-row-requires-clause-out : goal.tracked_row-row-requires-clause-out
tracked_row-row-requires-clause-out c =
    given-out c.args.self.now.now c.args.now _ c.args.key.now c.in-Some.ticket c.enter.new.self.now c.in_ok-shown_key.ensures.equal c.in-Some.ensures.free c.in-Some.ensures.entered

pub tracked_row-again-requires-clause-out : goal.tracked_row-again-requires-clause-out
tracked_row-again-requires-clause-out c =
    given-out c.args.self.now.now c.args.now _ c.args.key.now c.in-Some.ticket c.enter.new.self.now c.in_ok-other_key.ensures.equal c.in-Some.ensures.free c.in-Some.ensures.entered

pub returns-in-Some-clause-ok : goal.returns-in-Some-clause-ok
returns-in-Some-clause-ok c =
    let t = c.self.inside in
    let mapped = length-map t.book.tickets (with_key t.store) in
    let some : length (tickets_of t.store t.book) < t.spec.max_refs = omega (arith, c.len.ensures, c.if-len-self.false, mapped) in
    let left : length c.args.self.now.now.tickets < c.args.self.now.now.spec.max_refs = subst (λ (s : State). length s.tickets < s.spec.max_refs) (now_is c.self.view_is) some in
    let state : State = begun c.args.self.now.now c.args.now in
    track-entered state c.args.key.now c.in-Some.ticket.slot (connected state c.args.key.now) c.tracked_row-row.result c.in-Some.ticket c.enter.new.self.now left refl
    (given-row c.args.self.now.now c.args.now _ c.args.key.now c.in-Some.ticket c.enter.new.self.now c.in_ok-shown_key.ensures.equal c.in-Some.ensures.free c.in-Some.ensures.entered c.tracked_row-row.result c.tracked_row-row.ensures)
    c.in-Some.ensures.entered

-- both rows are of the same record
pub returns-in-Some-clause-twice : goal.returns-in-Some-clause-twice
returns-in-Some-clause-twice c =
    let first = given-row c.args.self.now.now c.args.now _ c.args.key.now c.in-Some.ticket c.enter.new.self.now c.in_ok-shown_key.ensures.equal c.in-Some.ensures.free c.in-Some.ensures.entered c.tracked_row-row.result c.tracked_row-row.ensures in
    let second = given-row c.args.self.now.now c.args.now _ c.args.key.now c.in-Some.ticket c.enter.new.self.now c.in_ok-other_key.ensures.equal c.in-Some.ensures.free c.in-Some.ensures.entered c.tracked_row-again.result c.tracked_row-again.ensures in
    ap (Tracked c.in-Some.ticket) (second ∙ sym first)
