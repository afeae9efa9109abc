use Rattle.stick_model.proofs.RunLemmas.{run_events}
use Rattle.stick_model.proofs.laws.count.Goals as goal

pub returns : goal.returns
returns c = run_events
