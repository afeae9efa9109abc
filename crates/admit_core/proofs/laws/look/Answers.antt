use Rattle.admit_core.proofs.ShownLemmas.{look_law}
use Rattle.admit_core.proofs.laws.look.Goals as goal

pub returns : goal.returns
returns c = look_law
