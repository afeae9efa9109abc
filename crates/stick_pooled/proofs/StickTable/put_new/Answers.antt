use Rattle.std.proofs.Common.{◌≡◌, ◌+◌, ◌<◌, sym, subst, ap, ◌∙◌, length, true, None}
use Rattle.stick_pooled.specs.Stock.{Stock, with_values}
use Rattle.stick_model.specs.State.{State, record_at}
use Rattle.stick_model.specs.Step.{Outcome, put_allowed, put_pairs}
use Rattle.stick_model.specs.declared.replies.Reply.TheVariants.{Written}
use Rattle.stick_pooled.specs.Shown.{records_of}
use Rattle.stick_pooled.specs.Steps.{with_event}
use Rattle.stick_pooled.specs.Table.{state_of, IsTable}
use Rattle.stick_pooled.proofs.StoreLemmas.{absent-roomy, new-made}
use Rattle.stick_pooled.proofs.PutLemmas.{put-new-table, put-new-is}
use Rattle.stick_pooled.proofs.StatesLemmas.{now_is, base_is, base_stays, keeps_base}
use Rattle.stick_pooled.proofs.StickTable.put_new.Goals as goal

-- the key has no record
absent : (c : goal.After-put_pairs) → record_at c.args.key (records_of c.self.inside.spec.expire c.self.inside.store) ≡ None
absent c = ap (λ (s : State). record_at c.args.key s.records) (now_is c.self.view_is) ∙ c.requires.absent

-- the store at the end is that of the lemmas
stored : (c : goal.After-put_pairs) → let t = c.self.inside in let i = c.insert-handle.ensures in
    c.put_pairs.new.store ≡ new-made t.spec t.clock t.events t.store t.book c.self.invariant.0 c.args.key (absent c) c.make_room.new.store c.if-not-make_room.ensures.roomy c.insert-handle.result.slot i.below i.free 0 (put_pairs c.args.pairs.now)
stored c = c.put_pairs.ensures ∙ ap (λ (x : Stock). with_values x c.insert-handle.result.slot (put_pairs c.args.pairs.now)) c.insert-handle.ensures.inserted

pub insert-handle-requires-clause-absent : goal.insert-handle-requires-clause-absent
insert-handle-requires-clause-absent c =
    let t = c.self.inside in
    absent-roomy t.spec t.clock t.events t.store t.book c.self.invariant.0 c.args.key (ap (λ (s : State). record_at c.args.key s.records) (now_is c.self.view_is) ∙ c.requires.absent) c.make_room.new.store c.if-not-make_room.ensures.roomy

pub invariant_of-self-2 : goal.invariant_of-self-2
invariant_of-self-2 c =
    let t = c.self.inside in
    let i = c.insert-handle.ensures in (
      subst (λ (s : Stock). IsTable t.spec t.clock (t.events + 1) s t.book) (sym (stored c))
          (put-new-table t.spec t.clock t.events t.store t.book c.self.invariant.0 (subst (λ (s : State). s.events + length s.tickets < s.spec.life) (sym (now_is c.self.view_is)) c.requires.life) c.args.pairs.now c.args.key (absent c) c.make_room.new.store c.if-not-make_room.ensures.roomy c.insert-handle.result.slot i.below i.free),
      keeps_base t.spec t.base_clock t.base_events t.base_tickets.items t.store.base c.put_pairs.new.store.base (ap (λ (s : Stock). s.base) (stored c) ∙ c.if-not-make_room.ensures.roomy.left.base) c.self.invariant.1,
    )

pub returns-clause-now : goal.returns-clause-now
returns-clause-now c =
    let t = c.self.inside in
    let i = c.insert-handle.ensures in
    ap (λ (s : State). put_allowed (with_event s) c.args.key c.args.pairs.now) (sym (now_is c.self.view_is))
    ∙ put-new-is t.spec t.clock t.events t.store t.book c.self.invariant.0 (subst (λ (s : State). s.events + length s.tickets < s.spec.life) (sym (now_is c.self.view_is)) c.requires.life) c.args.pairs.now c.args.key (absent c) c.make_room.new.store c.if-not-make_room.ensures.roomy c.insert-handle.result.slot i.below i.free
    ∙ ap {B = Outcome} (λ (s : Stock). (Written true, state_of t.spec t.clock (t.events + 1) s t.book)) (sym (stored c))

pub returns-clause-base : goal.returns-clause-base
returns-clause-base c =
    let t = c.self.inside in
    base_stays t.spec t.base_clock t.base_events t.base_tickets.items t.store.base c.put_pairs.new.store.base (ap (λ (s : Stock). s.base) (stored c) ∙ c.if-not-make_room.ensures.roomy.left.base) ∙ base_is c.self.view_is
