use Rattle.admit_world.proofs.JoinLemmas.{schedules-join}
use Rattle.admit_world.proofs.laws.schedules_join.Goals as goal

pub returns : goal.returns
returns c = schedules-join
