use Rattle.rule_eval.proofs.LimitLaws.{once_lem, never_lem}
use Rattle.rule_eval.proofs.laws.limit_asks_once.Goals as goal

pub returns-clause-once : goal.returns-clause-once
returns-clause-once c = once_lem

pub returns-clause-never : goal.returns-clause-never
returns-clause-never c = never_lem
