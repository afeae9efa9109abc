use Rattle.admit_world.proofs.OneWorldLemmas.{one_world_law}
use Rattle.admit_world.proofs.laws.one_world.Goals as goal

pub returns : goal.returns
returns c = one_world_law
