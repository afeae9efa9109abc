use Rattle.std.proofs.Common.{◌≡◌, ◌+◌, ◌<◌, ◌≤◌, ◌^◌, sym, subst, ap, ◌∙◌, length, Some}
use Rattle.stick_pooled.specs.Stock.{Held, Stock, held_at, with_entry}
use Rattle.stick_pooled.proofs.StockLemmas.{same_some}
use Rattle.stick_pooled.specs.Tickets.{Tickets}
use Rattle.stick_table.specs.References.{entered}
use Rattle.stick_model.specs.Key.{Key}
use Rattle.stick_model.specs.State.{State, record_at}
use Rattle.stick_model.specs.Step.{connected, is_free_slot}
use Rattle.stick_pooled.specs.Steps.{with_event}
use Rattle.stick_pooled.specs.Table.{state_of, IsTable}
use Rattle.stick_pooled.proofs.TableLemmas.{record-absent}
use Rattle.stick_pooled.proofs.RefreshLemmas.{fresh}
use Rattle.stick_pooled.proofs.StoreLemmas.{values-at, new-there}
use Rattle.stick_pooled.proofs.TrackLemmas.{connect, few-refs, place-free, track-there-table, track-there-is}
use Rattle.stick_pooled.proofs.StatesLemmas.{now_is, base_is, base_stays, keeps_base}
use Rattle.stick_pooled.proofs.StickTable.enter_there.Goals as goal

-- the store at the end is that of the lemmas
stored : (c : goal.After-insert) → let t = c.self.inside in let at = c.in-Some.ensures.found in
    c.hold.new.store ≡ new-there t.spec t.clock t.events t.store t.book c.self.invariant.0 c.in-Some.handle.slot at.held at.there (connect t.clock) (at.held.entry.refs + 1)
stored c =
    let t = c.self.inside in
    let at = c.in-Some.ensures.found in
    c.hold.ensures (record at.held { values = connect t.clock at.held.values }) (ap (λ (x : Stock). held_at x c.in-Some.handle.slot) c.act.ensures.acted ∙ values-at t.store c.in-Some.handle.slot at.held (connect t.clock) at.there)
    ∙ ap (λ (x : Stock). with_entry x c.in-Some.handle.slot (fresh t.clock t.events (at.held.entry.refs + 1))) c.act.ensures.acted

life : (c : goal.After-insert) → let t = c.self.inside in let s = state_of t.spec t.clock t.events t.store t.book in s.events + length s.tickets + 2 ≤ s.spec.life
life c = subst (λ (s : State). s.events + length s.tickets + 2 ≤ s.spec.life) (sym (now_is c.self.view_is)) c.requires.life

left : (c : goal.After-insert) → let t = c.self.inside in let s = state_of t.spec t.clock t.events t.store t.book in length s.tickets < s.spec.max_refs
left c = subst (λ (s : State). length s.tickets < s.spec.max_refs) (sym (now_is c.self.view_is)) c.requires.left

pub returns-in_default-clause-absent : goal.returns-in_default-clause-absent
returns-in_default-clause-absent c =
    let t = c.self.inside in
    ap (λ (s : State). record_at c.args.key.now s.records) (sym (now_is c.self.view_is)) ∙ record-absent t.spec t.clock t.events t.store t.book c.self.invariant.0 c.args.key.now c.in_default.ensures.absent

pub hold-requires-clause-few : goal.hold-requires-clause-few
hold-requires-clause-few c held there =
    let t = c.self.inside in
    let at = c.in-Some.ensures.found in
    let one : record at.held { values = connect t.clock at.held.values } ≡ held =
    same_some (sym (ap (λ (x : Stock). held_at x c.in-Some.handle.slot) c.act.ensures.acted ∙ values-at t.store c.in-Some.handle.slot at.held (connect t.clock) at.there) ∙ there) in
    subst (λ (h : Held). h.entry.refs ≤ 2 ^ 20) one (few-refs t.spec t.clock t.events t.store t.book c.self.invariant.0 c.in-Some.handle.slot at.held at.there)

pub invariant_of-self : goal.invariant_of-self
invariant_of-self c =
    let t = c.self.inside in
    let at = c.in-Some.ensures.found in (
      subst (λ (p : Stock × Tickets). IsTable t.spec t.clock (t.events + 1) p.0 p.1) (λ i. (sym (stored c) i, sym c.insert.ensures.inserted i))
          (track-there-table t.spec t.clock t.events t.store t.book c.self.invariant.0 (life c) (left c) c.insert.result c.insert.ensures.number c.in-Some.handle.slot at.held at.there (connect t.clock)),
      keeps_base t.spec t.base_clock t.base_events t.base_tickets.items t.store.base c.hold.new.store.base (ap (λ (s : Stock). s.base) (stored c)) c.self.invariant.1,
    )

pub returns-clause-entered : goal.returns-clause-entered
returns-clause-entered c =
    let t = c.self.inside in
    let at = c.in-Some.ensures.found in
    ap (λ (s : State). entered (with_event s) c.args.key.now c.insert.result.slot (connected (with_event s) c.args.key.now)) (sym (now_is c.self.view_is))
    ∙ ap (λ (k : Key). let s : State = state_of t.spec t.clock (t.events + 1) t.store t.book in entered s k c.insert.result.slot (connected s k)) (sym at.keyed)
    ∙ track-there-is t.spec t.clock t.events t.store t.book c.self.invariant.0 (life c) (left c) c.insert.result c.insert.ensures.number c.in-Some.handle.slot at.held at.there (connect t.clock)
    ∙ (λ i. (Some c.insert.result, state_of t.spec t.clock (t.events + 1) (sym (stored c) i) (sym c.insert.ensures.inserted i)))

pub returns-clause-free : goal.returns-clause-free
returns-clause-free c =
    let t = c.self.inside in
    ap (λ (s : State). is_free_slot s c.insert.result.slot) (sym (now_is c.self.view_is)) ∙ place-free t.spec t.clock t.events t.store t.book c.self.invariant.0 c.insert.result.slot c.insert.ensures.below c.insert.ensures.unused

pub returns-clause-base : goal.returns-clause-base
returns-clause-base c =
    let t = c.self.inside in
    base_stays t.spec t.base_clock t.base_events t.base_tickets.items t.store.base c.hold.new.store.base (ap (λ (s : Stock). s.base) (stored c)) ∙ base_is c.self.view_is
