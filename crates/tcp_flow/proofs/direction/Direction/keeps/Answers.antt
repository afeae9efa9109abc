use Rattle.tcp_flow.proofs.MoveLemmas.{going_sum}
use Rattle.tcp_flow.proofs.direction.Direction.keeps.Goals as goal

pub returns-then-not-self-clause-sum : goal.returns-then-not-self-clause-sum
returns-then-not-self-clause-sum c = going_sum _ _ _ _ c.self.view_is c.self.invariant c.keeps.ensures.sum
