use Rattle.stick_model.proofs.LimitLemmas.{limit-law}
use Rattle.stick_model.proofs.laws.limit.Goals as goal

pub returns : goal.returns
returns c = limit-law
