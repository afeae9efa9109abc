use Rattle.rule_warnings.proofs.AdviceLemmas.{advice_law}
use Rattle.rule_warnings.proofs.laws.advice.Goals as goal

pub returns : goal.returns
returns c = advice_law
