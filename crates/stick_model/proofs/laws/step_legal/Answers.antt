use Rattle.stick_model.proofs.LegalLemmas.{step_legal}
use Rattle.stick_model.proofs.laws.step_legal.Goals as goal

pub returns : goal.returns
returns c = step_legal
