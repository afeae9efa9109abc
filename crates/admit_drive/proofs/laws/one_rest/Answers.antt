use Rattle.admit_drive.proofs.RestOnceLemmas.{one_rest_law}
use Rattle.admit_drive.proofs.laws.one_rest.Goals as goal

pub returns : goal.returns
returns c = one_rest_law
