-- A table that knows what it was.
use Rattle.stick_model.specs.State.{State}

-- what it is, and what it was at its base
pub record TwoStates : Type 0 where
  pub now : State
  pub base : State
