use Rattle.std.proofs.Common.{◌≡◌, ap, sym, subst, ◌∙◌, arith}
use Rattle.std.specs.Prelude.{IfOk}
use Rattle.stick_model.specs.State.{State}
use Rattle.stick_model.specs.declared.specification.Spec.{Spec}
use Rattle.stick_table.specs.TwoStates.{TwoStates}
use Rattle.stick_pooled.specs.Shown.{kept_records}
use Rattle.stick_pooled.proofs.StatesLemmas.{base_is}
use Rattle.stick_pooled.proofs.StickTable.copy_base.Goals as goal

pub copy_records-requires-clause-within : goal.copy_records-requires-clause-within
copy_records-requires-clause-within c = ap (λ (spec : Spec). spec.size) c.in_ok-spec.ensures ∙ sym c.self.invariant.0.sized

pub copy_records-requires-clause-size : goal.copy_records-requires-clause-size
copy_records-requires-clause-size c = ap (λ (spec : Spec). spec.size) c.in_ok-spec.ensures ∙ sym c.self.invariant.1.sized

pub copy_records-requires-clause-moments : goal.copy_records-requires-clause-moments
copy_records-requires-clause-moments c slot kept there =
    let past = c.self.invariant.1.past slot kept there in
    let limit = c.self.invariant.1.bounded.clock_ok in
    omega (arith, past, limit)

pub copy_records-requires-clause-distinct : goal.copy_records-requires-clause-distinct
copy_records-requires-clause-distinct c = c.self.invariant.1.distinct

pub returns : goal.returns
returns c =
    let t = c.self.inside in
    let specs : c.in_ok-spec.spec ≡ t.spec = c.in_ok-spec.ensures in
    let records : c.in_ok-records.records.items ≡ kept_records t.spec.expire t.store.base = c.in_ok-records.ensures ∙ ap (λ (spec : Spec). kept_records spec.expire t.store.base) specs in
    let tickets : c.in_ok-tickets.tickets.items ≡ t.base_tickets.items = c.in_ok-tickets.ensures ∙ c.deref.ensures.value in
    subst (λ (state : State). IfOk c.from_parts.result (λ (table : TwoStates). table.now ≡ state))
    ((λ i. record { spec = specs i; clock = t.base_clock; events = t.base_events; records = records i; tickets = tickets i }) ∙ base_is c.self.view_is) c.from_parts.ensures.now
