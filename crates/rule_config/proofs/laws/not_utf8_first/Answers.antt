use Rattle.rule_config.proofs.LawLemmas.{utf8-law}
use Rattle.rule_config.proofs.laws.not_utf8_first.Goals as goal

pub returns : goal.returns
returns c = utf8-law
