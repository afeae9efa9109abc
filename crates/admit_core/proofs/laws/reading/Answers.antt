use Rattle.admit_core.proofs.ShownLemmas.{reading_law}
use Rattle.admit_core.proofs.laws.reading.Goals as goal

pub returns : goal.returns
returns c = reading_law
