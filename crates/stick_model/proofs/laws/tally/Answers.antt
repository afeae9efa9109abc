use Rattle.stick_model.proofs.TallyLemmas.{tally-law}
use Rattle.stick_model.proofs.laws.tally.Goals as goal

pub returns : goal.returns
returns c = tally-law
