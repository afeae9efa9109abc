use Rattle.stick_model.proofs.RunLemmas.{stored-count-law}
use Rattle.stick_model.proofs.laws.stored_count.Goals as goal

pub returns : goal.returns
returns c = stored-count-law
