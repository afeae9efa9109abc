use Rattle.rule_eval.proofs.TrackingLemmas.{tracking_lem}
use Rattle.rule_eval.proofs.laws.tracking.Goals as goal

pub returns : goal.returns
returns c = tracking_lem
