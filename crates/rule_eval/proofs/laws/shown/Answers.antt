use Rattle.rule_eval.proofs.ShownLemmas.{shown_lem}
use Rattle.rule_eval.proofs.laws.shown.Goals as goal

pub returns : goal.returns
returns c = shown_lem
