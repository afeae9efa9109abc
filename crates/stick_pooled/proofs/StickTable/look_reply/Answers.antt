use Rattle.std.proofs.Common.{sym, ap, ◌∙◌}
use Rattle.stick_table.specs.Replies.{looked_reply}
use Rattle.stick_model.specs.State.{State, key_of}
use Rattle.stick_pooled.proofs.CountLemmas.{ticket-held, held-of}
use Rattle.stick_pooled.proofs.LookLemmas.{looked-row}
use Rattle.stick_pooled.proofs.TrackedLemmas.{named-some}
use Rattle.stick_pooled.proofs.StatesLemmas.{now_is}
use Rattle.stick_pooled.proofs.StickTable.look_reply.Goals as goal

pub entry-slot-requires : goal.entry-slot-requires
entry-slot-requires c =
    let t = c.self.inside in
    named-some t.store t.book c.args.ticket (λ none. c.requires.out (ap (λ (s : State). key_of c.args.ticket s.tickets) (sym (now_is c.self.view_is)) ∙ none))

pub show_row-requires-clause-there : goal.show_row-requires-clause-there
show_row-requires-clause-there c =
    let t = c.self.inside in
    ticket-held t.spec t.clock t.events t.store t.book c.self.invariant.0 c.args.ticket c.entry-slot.result c.entry-slot.ensures

pub returns : goal.returns
returns c =
    let t = c.self.inside in
    let h = held-of t.spec t.clock t.events t.store t.book c.self.invariant.0 c.args.ticket c.entry-slot.result c.entry-slot.ensures in
    looked-row t.spec t.clock t.events t.store t.book c.self.invariant.0 c.args.clock c.args.ticket c.entry-slot.result h.0 c.in_ok-row.row c.entry-slot.ensures h.1 (c.in_ok-row.ensures h.0 h.1)
    ∙ ap (λ (s : State). looked_reply s c.args.clock c.args.ticket) (now_is c.self.view_is)
