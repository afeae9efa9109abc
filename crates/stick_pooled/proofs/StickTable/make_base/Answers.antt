use Rattle.std.proofs.Common.{List, Option, ap, sym, subst, ◌∙◌}
use Rattle.stick_model.specs.Key.{Key}
use Rattle.stick_model.specs.declared.rows.Ticket.{Ticket}
use Rattle.stick_pooled.specs.Stock.{Stock}
use Rattle.stick_pooled.specs.Table.{state_of, base_of, IsTable, IsBase}
use Rattle.stick_pooled.specs.declared.entry.Kept.{Kept}
use Rattle.stick_pooled.proofs.StatesLemmas.{now_is, based-base, based-table, based-state, few-slots}
use Rattle.stick_pooled.proofs.StickTable.make_base.Goals as goal

pub set_base-requires : goal.set_base-requires
set_base-requires c =
    let t = c.self.inside in
    few-slots t.spec t.clock t.events t.store t.book c.self.invariant.0

pub invariant_of-self-2 : goal.invariant_of-self-2
invariant_of-self-2 c =
    let t = c.self.inside in
    let new = c.in_ok-set_base.ensures.ok in (
      subst (λ (s : Stock). IsTable t.spec t.clock t.events s t.book) (sym new) (based-table t.spec t.clock t.events t.store t.book c.self.invariant.0),
      subst (λ (p : List (Option Kept) × List (Ticket × Key)). IsBase t.spec t.clock t.events p.0 p.1) (sym (λ i. ((new i).base, c.in_ok-tickets.ensures i))) (based-base t.spec t.clock t.events t.store t.book c.self.invariant.0),
    )

pub returns-clause-stays : goal.returns-clause-stays
returns-clause-stays c =
    let t = c.self.inside in
    ap (λ (s : Stock). state_of t.spec t.clock t.events s t.book) c.in_ok-set_base.ensures.ok ∙ now_is c.self.view_is

pub returns-clause-ok : goal.returns-clause-ok
returns-clause-ok c =
    let t = c.self.inside in
    (λ i. base_of t.spec t.clock t.events (c.in_ok-set_base.ensures.ok i).base (c.in_ok-tickets.ensures i))
    ∙ based-state t.spec t.clock t.events t.store t.book c.self.invariant.0 ∙ now_is c.self.view_is
