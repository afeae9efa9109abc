-- What a recorded call is.
use Rattle.std.specs.Prelude.{ℕ}
use Rattle.stick_model.specs.declared.events.Stored.{Stored}

-- the seat that made it, and the event with the slot that its reply told
pub record RecordedState : Type 0 where
  pub seat : ℕ
  pub stored : Stored
