use Rattle.stick_model.proofs.StepLemmas.{step_tickets}
use Rattle.stick_model.proofs.laws.tickets.Goals as goal

pub returns : goal.returns
returns c = step_tickets
