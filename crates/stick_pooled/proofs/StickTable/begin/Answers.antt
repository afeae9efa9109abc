use Rattle.std.proofs.Common.{◌+◌, ◌<◌, sym, subst, ap, length, ◌∙◌}
use Rattle.stick_model.specs.State.{State}
use Rattle.stick_pooled.specs.Steps.{with_event}
use Rattle.stick_pooled.proofs.TableLemmas.{counted-table}
use Rattle.stick_pooled.proofs.StatesLemmas.{now_is, base_is}
use Rattle.stick_pooled.proofs.StickTable.begin.Goals as goal

pub invariant_of-self : goal.invariant_of-self
invariant_of-self c =
    let t = c.self.inside in (
      counted-table t.spec t.clock t.events t.store t.book c.self.invariant.0
          (subst (λ (s : State). s.events + length s.tickets < s.spec.life) (sym (now_is c.self.view_is ∙ c.advance.ensures.now)) c.requires.life),
      c.self.invariant.1,
    )

pub returns-clause-now : goal.returns-clause-now
returns-clause-now c = ap with_event (now_is c.self.view_is ∙ c.advance.ensures.now)

pub returns-clause-base : goal.returns-clause-base
returns-clause-base c = base_is c.self.view_is ∙ c.advance.ensures.base
