use Rattle.admit_world.proofs.RowLemmas.{answered_rows_law}
use Rattle.admit_world.proofs.laws.answered_rows.Goals as goal

pub returns : goal.returns
returns c = answered_rows_law
