use Rattle.admit_drive.proofs.HomeLemmas.{home_law}
use Rattle.admit_drive.proofs.laws.home.Goals as goal

pub returns : goal.returns
returns c = home_law
