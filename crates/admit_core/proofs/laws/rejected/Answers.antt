use Rattle.admit_core.proofs.HistoryLemmas.{rejected_law}
use Rattle.admit_core.proofs.laws.rejected.Goals as goal

pub returns : goal.returns
returns g c = rejected_law
