use Rattle.stick_model.proofs.RunLemmas.{stored-join-law}
use Rattle.stick_model.proofs.laws.stored_join.Goals as goal

pub returns : goal.returns
returns c = stored-join-law
