use Rattle.rule_config.proofs.LawLemmas.{fault-law}
use Rattle.rule_config.proofs.laws.first_fault.Goals as goal

pub returns : goal.returns
returns c = fault-law
