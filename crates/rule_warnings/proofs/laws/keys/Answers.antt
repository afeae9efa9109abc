use Rattle.rule_warnings.proofs.KeyLemmas.{key_law}
use Rattle.rule_warnings.proofs.laws.keys.Goals as goal

pub returns : goal.returns
returns c = key_law
