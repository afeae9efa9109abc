-- The references that are out, and those that connections hold.
use Rattle.std.specs.Prelude.{◌≡◌, ℕ, ◌≤◌, List, sum_by}
use Rattle.admit_core.specs.Connection.{Connection}
use Rattle.admit_drive.specs.Balance.{times_by, times_out}
use Rattle.admit_drive.specs.Tables.{TableState}
use Rattle.shard_port.specs.declared.reference.Reference.{Reference}

-- how often connections hold it
abbrev pub times_held : ℕ × Reference → List (Connection Reference) → ℕ
times_held reference connections = sum_by (λ (connection : Connection Reference). times_by reference connection.progress.held) connections

-- a reference is out exactly where one connection holds it, by one of its slots
pub record AreHeld (tables : List TableState) (connections : List (Connection Reference)) : Type 0 where
  pub balance : (reference : ℕ × Reference) → times_held reference connections ≡ times_out reference tables
  pub once : (reference : ℕ × Reference) → times_out reference tables ≤ 1
