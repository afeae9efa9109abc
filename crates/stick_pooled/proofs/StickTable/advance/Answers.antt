use Rattle.std.proofs.Common.{◌≤◌, ap, arith, ◌∙◌}
use Rattle.stick_model.specs.State.{State, advance}
use Rattle.stick_pooled.proofs.TableLemmas.{advanced-is, left-table}
use Rattle.stick_pooled.proofs.StatesLemmas.{now_is, base_is, base_stays, keeps_base}
use Rattle.stick_pooled.proofs.StickTable.advance.Goals as goal

pub invariant_of-self : goal.invariant_of-self
invariant_of-self c =
    let t = c.self.inside in
    let d = c.drop_dead.ensures in
    let on : t.clock ≤ c.max-clock.result = omega (arith, c.max-clock.ensures) in (
      left-table t.spec t.clock t.events c.max-clock.result on t.store c.drop_dead.new.store t.book c.self.invariant.0 d.left
          (let before = c.self.invariant.0.bounded.clock_ok in let moment = c.requires in omega (arith, before, moment, c.max-clock.ensures)) d.stock d.rising d.columns d.newest d.size,
      keeps_base t.spec t.base_clock t.base_events t.base_tickets.items t.store.base c.drop_dead.new.store.base (d.left.base) c.self.invariant.1,
    )

pub returns-clause-now : goal.returns-clause-now
returns-clause-now c =
    let t = c.self.inside in
    let d = c.drop_dead.ensures in
    advanced-is t.spec t.clock t.events c.args.now c.max-clock.result c.max-clock.ensures t.store c.drop_dead.new.store t.book c.self.invariant.0 d.records d.left
    ∙ ap (λ (s : State). advance s c.args.now) (now_is c.self.view_is)

pub returns-clause-base : goal.returns-clause-base
returns-clause-base c =
    let t = c.self.inside in
    base_stays t.spec t.base_clock t.base_events t.base_tickets.items t.store.base c.drop_dead.new.store.base (c.drop_dead.ensures.left.base) ∙ base_is c.self.view_is
