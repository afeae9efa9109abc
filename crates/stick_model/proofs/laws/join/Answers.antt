use Rattle.stick_model.proofs.RunLemmas.{join-law}
use Rattle.stick_model.proofs.laws.join.Goals as goal

pub returns : goal.returns
returns c = join-law
