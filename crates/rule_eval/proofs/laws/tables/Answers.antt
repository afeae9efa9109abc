use Rattle.rule_eval.proofs.TrackingLemmas.{tables_lem}
use Rattle.rule_eval.proofs.laws.tables.Goals as goal

pub returns : goal.returns
returns c = tables_lem
