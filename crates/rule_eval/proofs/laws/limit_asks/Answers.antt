use Rattle.rule_eval.proofs.LimitLaws.{first_lem, second_lem}
use Rattle.rule_eval.proofs.laws.limit_asks.Goals as goal

pub returns-clause-first : goal.returns-clause-first
returns-clause-first c = first_lem

pub returns-clause-second : goal.returns-clause-second
returns-clause-second c = second_lem
