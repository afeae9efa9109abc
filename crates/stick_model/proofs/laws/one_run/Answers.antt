use Rattle.stick_model.proofs.RunLemmas.{run_determined}
use Rattle.stick_model.proofs.laws.one_run.Goals as goal

pub returns : goal.returns
returns c = run_determined
