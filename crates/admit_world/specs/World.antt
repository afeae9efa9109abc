-- Connections that share the tables of a setup, and go on in any order.
use Rattle.std.specs.Prelude.{◌≡◌, ℕ, ◌+◌, ◌<◌, ◌^◌, Bool, cond, Some, List, [], ◌∷◌, map, slice_get, slice_set, All}
use Rattle.rule_model.specs.declared.sections.Setup.{Setup}
use Rattle.admit_core.specs.Connection.{Connection, arrived, closed, need}
use Rattle.admit_core.specs.declared.need.Need.{Need}
use Rattle.admit_core.specs.declared.need.Need.TheVariants.{Rest}
use Rattle.admit_drive.specs.Moves.{Moves}
use Rattle.admit_drive.specs.Tables.{TableState, empty_tables}
use Rattle.shard_port.specs.declared.reference.Reference.{Reference}
use Rattle.admit_world.specs.declared.visit.Visit.{Visit}

-- the tables, and the connections in the order of their visits
pub record WorldState : Type 0 where
  pub tables : List TableState
  pub connections : List (Connection Reference)

-- every table empty, and every connection just come
abbrev pub begun : Setup → List Visit → WorldState
begun setup visits = record { tables = empty_tables setup; connections = map (λ (visit : Visit). arrived setup visit.samples) visits }

-- one that rests is closed, after the bytes of its visit
abbrev pub unless_resting : Visit → Connection Reference → Need → Connection Reference
unless_resting visit connection Rest = closed connection visit.bytes_in visit.bytes_out
unless_resting visit connection wanted = connection

abbrev pub woken : Visit → Connection Reference → Connection Reference
woken visit connection = unless_resting visit connection (need connection)

-- an element of a schedule: a connection's number, and a moment in ms. That connection goes on
pub record Element (visits : List Visit) (old : WorldState) (element : ℕ × ℕ) (new : WorldState) (was_refused : Bool) : Type 0 where
  pub visit : Visit
  pub connection : Connection Reference
  pub after : Connection Reference
  pub visits_it : slice_get visits element.0 ≡ Some visit
  pub is_it : slice_get old.connections element.0 ≡ Some connection
  pub moves : Moves element.1 old.tables (woken visit connection) new.tables after was_refused
  pub others : new.connections ≡ slice_set old.connections element.0 after

-- one element after another, and how many of them were refused
abbrev pub Elements : List Visit → WorldState → List (ℕ × ℕ) → WorldState → ℕ → Type 0
Elements visits old [] new count = (new ≡ old) × (count ≡ 0)
Elements visits old (element ∷ more) new count =
    (middle : WorldState) × (was_refused : Bool) × (rest : ℕ) × Element visits old element middle was_refused × Elements visits middle more new rest × (count ≡ cond was_refused 1 0 + rest)

-- what a schedule may have: connections of this world, and moments below 2^62 ms
abbrev pub IsSchedule : ℕ → List (ℕ × ℕ) → Type 0
IsSchedule count schedule = All (λ (element : ℕ × ℕ). (element.0 < count) × (element.1 < 2 ^ 62)) schedule
