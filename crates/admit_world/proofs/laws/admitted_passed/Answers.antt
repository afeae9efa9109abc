use Rattle.admit_world.proofs.LimitedLemmas.{admitted_passed_law}
use Rattle.admit_world.proofs.laws.admitted_passed.Goals as goal

pub returns : goal.returns
returns c = admitted_passed_law
