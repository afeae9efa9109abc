-- Schedules, one behind another.
use Rattle.std.specs.Prelude.{◌≡◌, ◌↔◌, ℕ, ◌+◌, List, ◌++◌}
use Rattle.admit_world.specs.World.{Elements, WorldState}
use Rattle.admit_world.specs.declared.visit.Visit.{Visit}

-- one schedule from a world, and the other from where it leads; the elements that were refused are those of both
pub record ElementsOn (visits : List Visit) (old : WorldState) (schedule later : List (ℕ × ℕ)) (new : WorldState) (count : ℕ) : Type 0 where
  pub middle : WorldState
  pub first : ℕ
  pub rest : ℕ
  pub before : Elements visits old schedule middle first
  pub after : Elements visits middle later new rest
  pub counted : count ≡ first + rest

-- two schedules joined are one, then the other
abbrev pub SchedulesJoinLaw : Type 0
SchedulesJoinLaw = (visits : List Visit) (old : WorldState) (schedule later : List (ℕ × ℕ)) (new : WorldState) (count : ℕ) →
    Elements visits old (schedule ++ later) new count ↔ ElementsOn visits old schedule later new count
