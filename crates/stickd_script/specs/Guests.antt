-- The connections that a script has open, beside its tables.
use Rattle.std.specs.Prelude.{◌≡◌, ℕ, ◌≤◌, nat_eq, Option, None, List, map, sum_by, All}
use Rattle.std.specs.BTreeMap.{is_at}
use Rattle.std.specs.List.{IsDistinct}
use Rattle.std.specs.Map.{lookup, remove_entry}
use Rattle.std.specs.Ordering.{nat_cmp}
use Rattle.rule_model.specs.declared.sections.Setup.{Setup}
use Rattle.admit_core.specs.Conn.{Stands, progress_of}
use Rattle.admit_core.specs.Connection.{Connection, Progress}
use Rattle.admit_core.specs.declared.conn.Conn.{Conn}
use Rattle.admit_core.specs.declared.need.Phase.TheVariants.{Admitted}
use Rattle.admit_drive.specs.Balance.{times_by, times_out}
use Rattle.admit_drive.specs.Tables.{AreTablesOf, TableState}
use Rattle.shard_port.specs.declared.reference.Reference.{Reference}
use Rattle.admit_drive.specs.Lived.{IsLived}

-- an open connection, behind its ID
abbrev pub Guest : Type 0
Guest = ℕ × Conn Reference

-- what is served, the tables in order of declaration, and the open connections in the order of their IDs
pub record ScriptState : Type 0 where
  pub setup : Setup
  pub tables : List TableState
  pub guests : List Guest

-- how far an open connection is
abbrev pub progress_in : Guest → Progress Reference
progress_in guest = progress_of guest.1

abbrev pub id_in : Guest → ℕ
id_in guest = guest.0

-- the open connection of an ID, if there is one
abbrev pub guest_of : ℕ → List Guest → Option (Conn Reference)
guest_of id guests = lookup (is_at (nat_cmp id)) guests

-- the open connections but that of an ID
abbrev pub without : ℕ → List Guest → List Guest
without id guests = remove_entry (is_at (nat_cmp id)) guests

-- a connection that an open one may be: the rules of the setup judged it, it holds what they track, and they accept it
pub record MayBe (setup : Setup) (guest : Conn Reference) (connection : Connection Reference) : Type 0 where
  pub judged_by : connection.setup ≡ setup
  pub stands : Stands guest connection
  pub lived : IsLived connection

-- how often open connections hold a reference
abbrev pub times_held : ℕ × Reference → List Guest → ℕ
times_held reference guests = sum_by (λ (guest : Guest). times_by reference (progress_in guest).held) guests

-- a reference is out exactly where one open connection holds it, by one of its slots; and no ID is open twice
pub record AreHeld (state : ScriptState) : Type 0 where
  pub balance : (reference : ℕ × Reference) → times_held reference state.guests ≡ times_out reference state.tables
  pub once : (reference : ℕ × Reference) → times_out reference state.tables ≤ 1
  pub ids_differ : IsDistinct nat_eq (map id_in state.guests)

-- it was admitted, it isn't closed, and all that came to it is held
pub record IsOpen (guest : Conn Reference) : Type 0 where
  pub phase : (progress_of guest).phase ≡ Admitted
  pub bytes : (progress_of guest).bytes ≡ None
  pub given : (progress_of guest).given ≡ None

-- what stands before each line: the tables are the setup's, and what they have out is held by connections that are open
pub record IsServed (state : ScriptState) : Type 0 where
  pub tables : AreTablesOf state.setup state.tables
  pub balance : (reference : ℕ × Reference) → times_held reference state.guests ≡ times_out reference state.tables
  pub ids_differ : IsDistinct nat_eq (map id_in state.guests)
  pub open_all : All (λ (guest : Guest). IsOpen guest.1) state.guests
  pub judged : All (λ (guest : Guest). (connection : Connection Reference) × MayBe state.setup guest.1 connection) state.guests
