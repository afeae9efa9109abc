use Rattle.rule_eval.proofs.EndsLemmas.{ends_lem}
use Rattle.rule_eval.proofs.laws.ends.Goals as goal

pub returns : goal.returns
returns c = ends_lem
