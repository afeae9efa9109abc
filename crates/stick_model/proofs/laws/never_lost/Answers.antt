use Rattle.stick_model.proofs.FateLemmas.{never-lost}
use Rattle.stick_model.proofs.laws.never_lost.Goals as goal

pub returns : goal.returns
returns c = never-lost
