use Rattle.stick_model.proofs.ExpiryLemmas.{expiry-law}
use Rattle.stick_model.proofs.laws.expiry.Goals as goal

pub returns : goal.returns
returns c = expiry-law
