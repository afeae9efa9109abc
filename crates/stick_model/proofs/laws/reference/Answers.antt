use Rattle.stick_model.proofs.ReferenceLemmas.{reference-law}
use Rattle.stick_model.proofs.laws.reference.Goals as goal

pub returns : goal.returns
returns c = reference-law
