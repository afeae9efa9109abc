use Rattle.std.proofs.Common.{◌≡◌, None, ap, subst, sym, ◌∙◌, rules}
use Rattle.stored_data.specs.Acts.{acted}
use Rattle.stick_pooled.specs.Stock.{Stock}
use Rattle.stick_pooled.specs.Tickets.{entry_of}
use Rattle.stick_model.specs.State.{State}
use Rattle.stick_model.specs.Step.{Outcome, count}
use Rattle.stick_model.specs.declared.replies.Reply.TheVariants.{Absent}
use Rattle.stick_pooled.specs.Table.{IsTable}
use Rattle.stick_pooled.proofs.ChangeLemmas.{values-table}
use Rattle.stick_pooled.proofs.CountLemmas.{ticket-held, held-of, count-absent, count-is}
use Rattle.stick_pooled.proofs.StatesLemmas.{now_is, base_is, base_stays, keeps_base}
use Rattle.stick_pooled.proofs.StickTable.count.Goals as goal

pub act-requires : goal.act-requires
act-requires c = ticket-held c.self.inside.spec c.self.inside.clock c.self.inside.events c.self.inside.store c.self.inside.book c.self.invariant.0 c.args.ticket c.in-Some.slot (sym c.in-Some.ensures)

pub returns-in_default-clause-now : goal.returns-in_default-clause-now
returns-in_default-clause-now c =
    let none : entry_of c.args.ticket c.self.inside.book ≡ None = search rules in
    ap (λ (s : State). count s c.args.ticket c.args.act) (sym c.begin.ensures.now ∙ sym (now_is c.self.view_is))
    ∙ count-absent c.self.inside.spec c.self.inside.clock c.self.inside.events c.self.inside.store c.self.inside.book c.self.invariant.0 c.args.ticket c.args.act none
    ∙ ap {B = Outcome} (λ (s : State). (Absent, s)) (now_is c.self.view_is)

pub invariant_of-self : goal.invariant_of-self
invariant_of-self c =
    let t = c.self.inside in
    let h = held-of c.self.inside.spec c.self.inside.clock c.self.inside.events c.self.inside.store c.self.inside.book c.self.invariant.0 c.args.ticket c.in-Some.slot (sym c.in-Some.ensures) in (
      subst (λ (s : Stock). IsTable c.self.inside.spec c.self.inside.clock c.self.inside.events s c.self.inside.book) (sym c.act.ensures.acted)
          (values-table c.self.inside.spec c.self.inside.clock c.self.inside.events c.self.inside.store c.self.inside.book c.self.invariant.0 c.in-Some.slot h.0 (λ values. acted values c.self.inside.clock c.args.act) h.1),
      keeps_base t.spec t.base_clock t.base_events t.base_tickets.items t.store.base c.act.new.self.base (ap (λ (s : Stock). s.base) c.act.ensures.acted) c.self.invariant.1,
    )

pub returns-clause-now : goal.returns-clause-now
returns-clause-now c =
    let h = held-of c.self.inside.spec c.self.inside.clock c.self.inside.events c.self.inside.store c.self.inside.book c.self.invariant.0 c.args.ticket c.in-Some.slot (sym c.in-Some.ensures) in
    ap (λ (s : State). count s c.args.ticket c.args.act) (sym c.begin.ensures.now ∙ sym (now_is c.self.view_is))
    ∙ count-is c.self.inside.spec c.self.inside.clock c.self.inside.events c.self.inside.store c.self.inside.book c.self.invariant.0 c.args.ticket c.args.act c.in-Some.slot h.0 c.act.result c.act.new.self (sym c.in-Some.ensures) h.1 (c.act.ensures.answer h.0 h.1) c.act.ensures.acted

pub returns-clause-base : goal.returns-clause-base
returns-clause-base c =
    let t = c.self.inside in
    base_stays t.spec t.base_clock t.base_events t.base_tickets.items t.store.base c.act.new.self.base (ap (λ (s : Stock). s.base) c.act.ensures.acted) ∙ base_is c.self.view_is ∙ c.begin.ensures.base
