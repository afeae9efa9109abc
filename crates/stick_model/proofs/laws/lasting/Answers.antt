use Rattle.stick_model.proofs.RunLemmas.{lasting-law}
use Rattle.stick_model.proofs.laws.lasting.Goals as goal

pub returns : goal.returns
returns c = lasting-law
