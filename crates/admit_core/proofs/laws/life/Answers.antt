use Rattle.admit_core.proofs.LifeLemmas.{life_law}
use Rattle.admit_core.proofs.laws.life.Goals as goal

pub returns : goal.returns
returns g c = life_law
