use Rattle.std.proofs.Common.{◌≡◌, ◌+◌, ◌<◌, sym, subst, ap, ◌∙◌, length, false}
use Rattle.stick_pooled.specs.Stock.{Stock, held_at, with_entry}
use Rattle.stick_model.specs.Key.{Key}
use Rattle.stick_model.specs.State.{State, record_at}
use Rattle.stick_model.specs.Step.{Outcome, put_allowed, put_pairs}
use Rattle.stick_model.specs.declared.replies.Reply.TheVariants.{Written}
use Rattle.stick_pooled.specs.Steps.{with_event}
use Rattle.stick_pooled.specs.Table.{state_of, IsTable}
use Rattle.stick_pooled.proofs.TableLemmas.{record-absent}
use Rattle.stick_pooled.proofs.RefreshLemmas.{fresh}
use Rattle.stick_pooled.proofs.StoreLemmas.{values-at, new-there}
use Rattle.stick_pooled.proofs.PutLemmas.{put-there-table, put-there-is}
use Rattle.stick_pooled.proofs.StatesLemmas.{now_is, base_is, base_stays, keeps_base}
use Rattle.stick_pooled.proofs.StickTable.put_there.Goals as goal

-- the store at the end is that of the lemmas
stored : (c : goal.After-touch) → let t = c.self.inside in let at = c.in-Some.ensures.found in
    c.touch.new.store ≡ new-there t.spec t.clock t.events t.store t.book c.self.invariant.0 c.in-Some.handle.slot at.held at.there (put_pairs c.args.pairs.now) at.held.entry.refs
stored c =
    let t = c.self.inside in
    let at = c.in-Some.ensures.found in
    c.touch.ensures (record at.held { values = put_pairs c.args.pairs.now at.held.values }) (ap (λ (x : Stock). held_at x c.in-Some.handle.slot) c.put_pairs.ensures ∙ values-at t.store c.in-Some.handle.slot at.held (put_pairs c.args.pairs.now) at.there)
    ∙ ap (λ (x : Stock). with_entry x c.in-Some.handle.slot (fresh t.clock t.events at.held.entry.refs)) c.put_pairs.ensures

pub returns-in_default-clause-absent : goal.returns-in_default-clause-absent
returns-in_default-clause-absent c =
    let t = c.self.inside in
    ap (λ (s : State). record_at c.args.key.now s.records) (sym (now_is c.self.view_is)) ∙ record-absent t.spec t.clock t.events t.store t.book c.self.invariant.0 c.args.key.now c.in_default.ensures.absent

pub invariant_of-self : goal.invariant_of-self
invariant_of-self c =
    let t = c.self.inside in
    let at = c.in-Some.ensures.found in (
      subst (λ (s : Stock). IsTable t.spec t.clock (t.events + 1) s t.book) (sym (stored c))
          (put-there-table t.spec t.clock t.events t.store t.book c.self.invariant.0 (subst (λ (s : State). s.events + length s.tickets < s.spec.life) (sym (now_is c.self.view_is)) c.requires.life) c.args.pairs.now c.in-Some.handle.slot at.held at.there),
      keeps_base t.spec t.base_clock t.base_events t.base_tickets.items t.store.base c.touch.new.store.base (ap (λ (s : Stock). s.base) (stored c)) c.self.invariant.1,
    )

pub returns-clause-there : goal.returns-clause-there
returns-clause-there c =
    let t = c.self.inside in
    let at = c.in-Some.ensures.found in
    ap (λ (s : State). put_allowed (with_event s) c.args.key.now c.args.pairs.now) (sym (now_is c.self.view_is))
    ∙ ap (λ (k : Key). put_allowed (state_of t.spec t.clock (t.events + 1) t.store t.book) k c.args.pairs.now) (sym at.keyed)
    ∙ put-there-is t.spec t.clock t.events t.store t.book c.self.invariant.0 (subst (λ (s : State). s.events + length s.tickets < s.spec.life) (sym (now_is c.self.view_is)) c.requires.life) c.args.pairs.now c.in-Some.handle.slot at.held at.there
    ∙ ap {B = Outcome} (λ (s : Stock). (Written false, state_of t.spec t.clock (t.events + 1) s t.book)) (sym (stored c))

pub returns-clause-base : goal.returns-clause-base
returns-clause-base c =
    let t = c.self.inside in
    base_stays t.spec t.base_clock t.base_events t.base_tickets.items t.store.base c.touch.new.store.base (ap (λ (s : Stock). s.base) (stored c)) ∙ base_is c.self.view_is
