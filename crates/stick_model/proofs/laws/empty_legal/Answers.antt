use Rattle.stick_model.proofs.LegalLemmas.{empty_legal}
use Rattle.stick_model.proofs.laws.empty_legal.Goals as goal

pub returns : goal.returns
returns c = empty_legal
