use Rattle.std.proofs.Common.{ap, ◌∙◌}
use Rattle.stick_model.specs.State.{State, key_of, record_at, row}
use Rattle.stick_pooled.proofs.CountLemmas.{ticket-held, held-of}
use Rattle.stick_pooled.proofs.TrackedLemmas.{out-some, out-key, out-row}
use Rattle.stick_pooled.proofs.StatesLemmas.{now_is}
use Rattle.stick_pooled.proofs.StickTable.tracked_row.Goals as goal

pub entry-slot-requires : goal.entry-slot-requires
entry-slot-requires c =
    let t = c.self.inside in
    out-some t.spec t.clock t.events t.store t.book c.self.invariant.0 c.args.ticket c.args.key (ap (λ (s : State). key_of c.args.ticket s.tickets) (now_is c.self.view_is) ∙ c.requires.out)

pub fill_row-requires-clause-there : goal.fill_row-requires-clause-there
fill_row-requires-clause-there c =
    let t = c.self.inside in
    ticket-held t.spec t.clock t.events t.store t.book c.self.invariant.0 c.args.ticket c.entry-slot.result c.entry-slot.ensures

pub fill_row-requires-clause-own : goal.fill_row-requires-clause-own
fill_row-requires-clause-own c =
    let t = c.self.inside in
    out-key t.spec t.clock t.events t.store t.book c.self.invariant.0 c.args.ticket c.args.key (ap (λ (s : State). key_of c.args.ticket s.tickets) (now_is c.self.view_is) ∙ c.requires.out) c.entry-slot.result c.entry-slot.ensures

pub returns : goal.returns
returns c found is =
    let t = c.self.inside in
    let h = held-of t.spec t.clock t.events t.store t.book c.self.invariant.0 c.args.ticket c.entry-slot.result c.entry-slot.ensures in
    out-row t.spec t.clock t.events t.store t.book c.self.invariant.0 c.args.ticket c.args.key (ap (λ (s : State). key_of c.args.ticket s.tickets) (now_is c.self.view_is) ∙ c.requires.out) c.entry-slot.result c.entry-slot.ensures
    h.0 c.fill_row.result found h.1 (c.fill_row.ensures h.0 h.1) (ap (λ (s : State). record_at c.args.key s.records) (now_is c.self.view_is) ∙ is)
    ∙ ap (λ (s : State). row s c.args.key found) (now_is c.self.view_is)
