use Rattle.stickd_script.proofs.KeyLemmas.{keys_law}
use Rattle.stickd_script.proofs.laws.keys.Goals as goal

pub returns : goal.returns
returns c = keys_law
