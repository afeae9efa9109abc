use Rattle.rule_eval.proofs.LimitLaws.{within_lem}
use Rattle.rule_eval.proofs.laws.limit.Goals as goal

pub returns : goal.returns
returns c = within_lem
