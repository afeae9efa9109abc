-- What the plain table keeps of its numbers, so that its sums fit.
use Rattle.std.specs.Prelude.{ℕ, ◌+◌, ◌≤◌, ◌<◌, ◌^◌, List, length}
use Rattle.stick_model.specs.Key.{Key}
use Rattle.stick_model.specs.Limits.{IsTableSpec}
use Rattle.stick_model.specs.declared.rows.Ticket.{Ticket}
use Rattle.stick_model.specs.declared.specification.Spec.{Spec}

pub record IsBounded (spec : Spec) (clock events : ℕ) (tickets : List (Ticket × Key)) : Type 0 where
  pub spec_ok : IsTableSpec spec
  pub clock_ok : clock < 2 ^ 62
  pub life_ok : events + length tickets ≤ spec.life
  pub tickets_ok : length tickets ≤ spec.max_refs
