use Rattle.std.proofs.Common.{◌≡◌, ap, sym, subst, ◌∙◌, arith}
use Rattle.std.specs.Prelude.{IfOk}
use Rattle.stick_model.specs.State.{State}
use Rattle.stick_model.specs.declared.specification.Spec.{Spec}
use Rattle.stick_table.specs.TwoStates.{TwoStates}
use Rattle.stick_pooled.specs.Stock.{kept_slots}
use Rattle.stick_pooled.specs.Shown.{kept_records, records_of}
use Rattle.stick_pooled.specs.declared.entry.Point.TheVariants.{Now}
use Rattle.stick_pooled.proofs.StatesLemmas.{now_is, records-now, based-base}
use Rattle.stick_pooled.proofs.StickTable.copy_to_plain.Goals as goal

pub copy_records-requires-clause-within : goal.copy_records-requires-clause-within
copy_records-requires-clause-within c = ap (λ (spec : Spec). spec.size) c.in_ok-spec.ensures ∙ sym c.self.invariant.0.sized

pub copy_records-requires-clause-size : goal.copy_records-requires-clause-size
copy_records-requires-clause-size c =
    let t = c.self.inside in
    ap (λ (spec : Spec). spec.size) c.in_ok-spec.ensures ∙ sym (based-base t.spec t.clock t.events t.store t.book c.self.invariant.0).sized

pub copy_records-requires-clause-moments : goal.copy_records-requires-clause-moments
copy_records-requires-clause-moments c slot kept there =
    let t = c.self.inside in
    let past = (based-base t.spec t.clock t.events t.store t.book c.self.invariant.0).past slot kept there in
    let limit = c.self.invariant.0.bounded.clock_ok in
    omega (arith, past, limit)

pub copy_records-requires-clause-distinct : goal.copy_records-requires-clause-distinct
copy_records-requires-clause-distinct c =
    let t = c.self.inside in
    (based-base t.spec t.clock t.events t.store t.book c.self.invariant.0).distinct

pub returns : goal.returns
returns c =
    let t = c.self.inside in
    let specs : c.in_ok-spec.spec ≡ t.spec = c.in_ok-spec.ensures in
    let records : c.in_ok-records.records.items ≡ records_of t.spec.expire t.store = c.in_ok-records.ensures ∙ ap (λ (spec : Spec). kept_records spec.expire (kept_slots Now t.store)) specs ∙ records-now t.spec.expire t.store in
    subst (λ (state : State). IfOk c.from_parts.result (λ (table : TwoStates). table.now ≡ state))
    ((λ i. record { spec = specs i; clock = t.clock; events = t.events; records = records i; tickets = c.in_ok-tickets.ensures i }) ∙ now_is c.self.view_is) c.from_parts.ensures.now
