use Rattle.rule_eval.proofs.FetchedLemmas.{datum_lem, element_lem}
use Rattle.rule_eval.proofs.laws.fetched.Goals as goal

pub returns-clause-datum : goal.returns-clause-datum
returns-clause-datum c = datum_lem

pub returns-clause-element : goal.returns-clause-element
returns-clause-element c = element_lem
