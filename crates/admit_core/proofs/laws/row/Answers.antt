use Rattle.admit_core.proofs.ShownLemmas.{row_law}
use Rattle.admit_core.proofs.laws.row.Goals as goal

pub returns : goal.returns
returns c = row_law
