use Rattle.admit_core.proofs.HistoryLemmas.{admitted_law}
use Rattle.admit_core.proofs.laws.admitted.Goals as goal

pub returns : goal.returns
returns g c = admitted_law
