use Rattle.stick_model.proofs.RunLemmas.{redo-law}
use Rattle.stick_model.proofs.laws.redo.Goals as goal

pub returns : goal.returns
returns c = redo-law
