use Rattle.rule_eval.proofs.TrackingLemmas.{free_lem}
use Rattle.rule_eval.proofs.laws.free.Goals as goal

pub returns : goal.returns
returns c = free_lem
