use Rattle.admit_world.proofs.RowLemmas.{rows_law}
use Rattle.admit_world.proofs.laws.rows.Goals as goal

pub returns : goal.returns
returns c = rows_law
