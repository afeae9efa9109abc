use Rattle.admit_core.proofs.KeepingLemmas.{held_law}
use Rattle.admit_core.proofs.laws.held.Goals as goal

pub returns : goal.returns
returns g c = held_law
