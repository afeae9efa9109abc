use Rattle.rule_config.proofs.TextLemmas.{limit_text_law}
use Rattle.rule_config.proofs.limit_laws.text.Goals as goal

pub returns : goal.returns
returns c = limit_text_law
