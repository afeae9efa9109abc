use Rattle.admit_core.proofs.HistoryLemmas.{ended_law}
use Rattle.admit_core.proofs.laws.ended.Goals as goal

pub returns : goal.returns
returns g c = ended_law
