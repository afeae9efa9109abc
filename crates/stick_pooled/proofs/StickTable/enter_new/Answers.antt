use Rattle.std.proofs.Common.{◌≡◌, ◌+◌, ◌<◌, ◌≤◌, sym, subst, ap, ◌∙◌, length, Some, None}
use Rattle.stick_pooled.specs.Stock.{Stock, with_values}
use Rattle.stick_pooled.specs.Tickets.{Tickets}
use Rattle.stick_table.specs.References.{entered}
use Rattle.stick_model.specs.State.{State, record_at}
use Rattle.stick_model.specs.Step.{connected, is_free_slot}
use Rattle.stick_pooled.specs.Shown.{records_of}
use Rattle.stick_pooled.specs.Steps.{with_event}
use Rattle.stick_pooled.specs.Table.{state_of, IsTable}
use Rattle.stick_pooled.proofs.StoreLemmas.{absent-roomy, new-made}
use Rattle.stick_pooled.proofs.TrackLemmas.{connect, place-free, track-new-table, track-new-is}
use Rattle.stick_pooled.proofs.StatesLemmas.{now_is, base_is, base_stays, keeps_base}
use Rattle.stick_pooled.proofs.StickTable.enter_new.Goals as goal

-- the key has no record
absent : (c : goal.After-insert) → record_at c.args.key (records_of c.self.inside.spec.expire c.self.inside.store) ≡ None
absent c = ap (λ (s : State). record_at c.args.key s.records) (now_is c.self.view_is) ∙ c.requires.absent

-- the store at the end is that of the lemmas
stored : (c : goal.After-insert) → let t = c.self.inside in let i = c.insert-handle.ensures in
    c.act.new.self ≡ new-made t.spec t.clock t.events t.store t.book c.self.invariant.0 c.args.key (absent c) c.make_room.new.store c.if-not-make_room.ensures.roomy c.insert-handle.result.slot i.below i.free 1 (connect t.clock)
stored c = c.act.ensures.acted ∙ ap (λ (x : Stock). with_values x c.insert-handle.result.slot (connect c.self.inside.clock)) c.insert-handle.ensures.inserted

life : (c : goal.After-insert) → let t = c.self.inside in let s = state_of t.spec t.clock t.events t.store t.book in s.events + length s.tickets + 2 ≤ s.spec.life
life c = subst (λ (s : State). s.events + length s.tickets + 2 ≤ s.spec.life) (sym (now_is c.self.view_is)) c.requires.life

left : (c : goal.After-insert) → let t = c.self.inside in let s = state_of t.spec t.clock t.events t.store t.book in length s.tickets < s.spec.max_refs
left c = subst (λ (s : State). length s.tickets < s.spec.max_refs) (sym (now_is c.self.view_is)) c.requires.left

pub insert-handle-requires-clause-absent : goal.insert-handle-requires-clause-absent
insert-handle-requires-clause-absent c =
    let t = c.self.inside in
    absent-roomy t.spec t.clock t.events t.store t.book c.self.invariant.0 c.args.key (ap (λ (s : State). record_at c.args.key s.records) (now_is c.self.view_is) ∙ c.requires.absent) c.make_room.new.store c.if-not-make_room.ensures.roomy

pub invariant_of-self-2 : goal.invariant_of-self-2
invariant_of-self-2 c =
    let t = c.self.inside in
    let i = c.insert-handle.ensures in (
      subst (λ (p : Stock × Tickets). IsTable t.spec t.clock (t.events + 1) p.0 p.1) (λ j. (sym (stored c) j, sym c.insert.ensures.inserted j))
          (track-new-table t.spec t.clock t.events t.store t.book c.self.invariant.0 (life c) (left c) c.insert.result c.insert.ensures.number c.args.key (absent c) c.make_room.new.store c.if-not-make_room.ensures.roomy c.insert-handle.result.slot i.below i.free (connect t.clock)),
      keeps_base t.spec t.base_clock t.base_events t.base_tickets.items t.store.base c.act.new.self.base (ap (λ (s : Stock). s.base) (stored c) ∙ c.if-not-make_room.ensures.roomy.left.base) c.self.invariant.1,
    )

pub returns-clause-entered : goal.returns-clause-entered
returns-clause-entered c =
    let t = c.self.inside in
    let i = c.insert-handle.ensures in
    ap (λ (s : State). entered (with_event s) c.args.key c.insert.result.slot (connected (with_event s) c.args.key)) (sym (now_is c.self.view_is))
    ∙ track-new-is t.spec t.clock t.events t.store t.book c.self.invariant.0 (life c) (left c) c.insert.result c.insert.ensures.number c.args.key (absent c) c.make_room.new.store c.if-not-make_room.ensures.roomy c.insert-handle.result.slot i.below i.free (connect t.clock)
    ∙ (λ j. (Some c.insert.result, state_of t.spec t.clock (t.events + 1) (sym (stored c) j) (sym c.insert.ensures.inserted j)))

pub returns-clause-free : goal.returns-clause-free
returns-clause-free c =
    let t = c.self.inside in
    ap (λ (s : State). is_free_slot s c.insert.result.slot) (sym (now_is c.self.view_is)) ∙ place-free t.spec t.clock t.events t.store t.book c.self.invariant.0 c.insert.result.slot c.insert.ensures.below c.insert.ensures.unused

pub returns-clause-base : goal.returns-clause-base
returns-clause-base c =
    let t = c.self.inside in
    base_stays t.spec t.base_clock t.base_events t.base_tickets.items t.store.base c.act.new.self.base (ap (λ (s : Stock). s.base) (stored c) ∙ c.if-not-make_room.ensures.roomy.left.base) ∙ base_is c.self.view_is
