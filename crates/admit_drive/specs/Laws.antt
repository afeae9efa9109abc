-- What every move of a connection keeps.
use Rattle.std.specs.Prelude.{◌≡◌, ℕ, Bool, Some, Option, List, All}
use Rattle.std.specs.Option.{option_map}
use Rattle.stick_key.specs.Shard.{shard}
use Rattle.stick_model.specs.Key.{Key}
use Rattle.stick_model.specs.State.{State}
use Rattle.stick_model.specs.declared.rows.Record.{Record}
use Rattle.stick_model.specs.declared.rows.Ticket.{Ticket}
use Rattle.rule_model.specs.declared.sections.Setup.{Setup}
use Rattle.admit_core.specs.Connection.{Connection}
use Rattle.admit_drive.specs.Moves.{Moves}
use Rattle.admit_drive.specs.Tables.{AreTablesOf, TableState, shard_at}
use Rattle.shard_port.specs.declared.reference.Reference.{Reference}
use Rattle.admit_drive.specs.Unrefused.{ComesToRestUnrefused}

-- ---- what is out of a shard lies on it

-- the keys of the references that are out of a shard are such as lie on it
abbrev pub IsHome : ℕ → ℕ → List (Ticket × Key) → Type 0
IsHome shards part tickets = All (λ (held : Ticket × Key). shard held.1 shards ≡ part) tickets

abbrev pub AreHome : ℕ → List TableState → Type 0
AreHome shards tables = (table part : ℕ) (live : State) → shard_at tables table part ≡ Some live → IsHome shards part live.tickets

-- and a move keeps it so, refused or not
abbrev pub HomeLaw : Type 0
HomeLaw = (now : ℕ) (old new : List TableState) (connection after : Connection Reference) (was_refused : Bool) →
    AreHome connection.setup.shards old → Moves now old connection new after was_refused → AreHome connection.setup.shards new

-- ---- one end, whatever slots references have

-- the records of a shard
abbrev pub records_at : List TableState → ℕ → ℕ → Option (List (Key × Record))
records_at tables table shard = option_map (λ (state : State). state.records) (shard_at tables table shard)

-- a connection and the tables, as they are in one course and in another: it had the same answers and is as far, and every
-- shard keeps the same records
pub record EndAlike (one other : List TableState) (first second : Connection Reference) : Type 0 where
  pub answers : first.answers ≡ second.answers
  pub phase : first.progress.phase ≡ second.progress.phase
  pub records : (table shard : ℕ) → records_at one table shard ≡ records_at other table shard

-- one that goes on until it rests, with nothing refused, comes to one end, whatever slots the tables give to references
abbrev pub OneRestLaw : Type 0
OneRestLaw = (setup : Setup) (now : ℕ) (old one other : List TableState) (connection first second : Connection Reference) → AreTablesOf setup old →
    ComesToRestUnrefused now old connection one first → ComesToRestUnrefused now old connection other second → EndAlike one other first second
