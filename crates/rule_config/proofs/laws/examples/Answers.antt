use Rattle.rule_config.proofs.ExampleLemmas.{examples_law}
use Rattle.rule_config.proofs.laws.examples.Goals as goal

pub returns : goal.returns
returns c = examples_law
