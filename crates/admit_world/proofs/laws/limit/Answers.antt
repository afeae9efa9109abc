use Rattle.admit_world.proofs.LimitedLemmas.{limit_law}
use Rattle.admit_world.proofs.laws.limit.Goals as goal

pub returns : goal.returns
returns c = limit_law
