use Rattle.rule_config.proofs.LimitExampleLemmas.{example_law}
use Rattle.rule_config.proofs.limit_laws.example.Goals as goal

pub returns : goal.returns
returns c = example_law
