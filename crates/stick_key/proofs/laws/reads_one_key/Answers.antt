use Rattle.stick_key.proofs.KeyLaws.{reads_one}
use Rattle.stick_key.proofs.laws.reads_one_key.Goals as goal

pub returns : goal.returns
returns c = reads_one
