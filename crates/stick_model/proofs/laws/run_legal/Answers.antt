use Rattle.stick_model.proofs.LegalLemmas.{places_legal}
use Rattle.stick_model.proofs.laws.run_legal.Goals as goal

pub returns : goal.returns
returns c = places_legal
