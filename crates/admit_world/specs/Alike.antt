-- Worlds that differ at most in the slots that their tables gave to references.
use Rattle.std.specs.Prelude.{◌≡◌, ℕ, List, length, map}
use Rattle.rule_model.specs.declared.sections.Setup.{Setup}
use Rattle.rule_eval.specs.declared.wants.Answer.{Answer}
use Rattle.admit_core.specs.Connection.{Connection}
use Rattle.admit_core.specs.declared.need.Phase.{Phase}
use Rattle.admit_drive.specs.Tables.{CanOpen}
use Rattle.admit_drive.specs.Laws.{records_at}
use Rattle.admit_world.specs.World.{Elements, IsSchedule, WorldState, begun}
use Rattle.shard_port.specs.declared.reference.Reference.{Reference}
use Rattle.admit_world.specs.declared.visit.Visit.{Visit}

-- the answers that each connection's rules had, and how far each is
abbrev pub answers_in : WorldState → List (List Answer)
answers_in world = map (λ (connection : Connection Reference). connection.answers) world.connections

abbrev pub phases_in : WorldState → List Phase
phases_in world = map (λ (connection : Connection Reference). connection.progress.phase) world.connections

-- every connection had the same answers and is as far, and every shard keeps the same records
pub record AreAlike (one other : WorldState) : Type 0 where
  pub answers : answers_in one ≡ answers_in other
  pub phases : phases_in one ≡ phases_in other
  pub records : (table shard : ℕ) → records_at one.tables table shard ≡ records_at other.tables table shard

-- a schedule in which nothing is refused leads to one world, whatever slots the tables give to references
abbrev pub OneWorldLaw : Type 0
OneWorldLaw = (setup : Setup) (visits : List Visit) (schedule : List (ℕ × ℕ)) (one other : WorldState) → CanOpen setup → IsSchedule (length visits) schedule →
    Elements visits (begun setup visits) schedule one 0 → Elements visits (begun setup visits) schedule other 0 → AreAlike one other
