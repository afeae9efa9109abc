use Rattle.stick_key.proofs.KeyLaws.{bytes_fit}
use Rattle.stick_key.proofs.laws.bytes_fit.Goals as goal

pub returns : goal.returns
returns c = bytes_fit
