-- A connection that a worker holds.
use Rattle.std.specs.Prelude.{◌≡◌, ◌≤◌, ℕ, false, is_some, Option, Some, None, List, [], ◌∷◌, length}
use Rattle.shard_book.specs.SeatState.{RefState}
use Rattle.admit_core.specs.Conn.{judged_by, progress_of}
use Rattle.admit_core.specs.Held.{held_at}
use Rattle.admit_core.specs.declared.conn.Conn.{Conn}
use Rattle.admit_port.specs.DriveCode.{IsConnection}
use Rattle.admit_port.specs.Ports.{HoldsOf}
use Rattle.tcp_relay.specs.Seating.{put_in_if}
use Rattle.rule_model.specs.declared.actions.Slot.TheVariants.{Sc0, Sc1, Sc2}

-- it is a connection, whatever came of it so far, and its setup has so many tables, each in so many shards; each reference that it holds is of one of them, and none is handed out
pub record IsVisitor (tables shards : ℕ) (conn : Conn RefState) : Type 0 where
  pub living : IsConnection conn
  pub count : tables ≡ length (judged_by conn).tables
  pub each : 1 ≤ tables → shards ≡ (judged_by conn).shards
  pub held : HoldsOf tables (progress_of conn).held
  pub given : is_some (progress_of conn).given ≡ false

-- the lists of tables, and behind them the references that it holds, of its slots in their order
abbrev pub left_by : Conn RefState → List (List RefState) → List (List RefState)
left_by conn lists = put_in_if (held_at (progress_of conn).held Sc2) (put_in_if (held_at (progress_of conn).held Sc1) (put_in_if (held_at (progress_of conn).held Sc0) lists))

-- the same, if there is one
abbrev pub left_if : Option (Conn RefState) → List (List RefState) → List (List RefState)
left_if None lists = lists
left_if (Some conn) lists = left_by conn lists

-- the same of all, of the last one first
unfoldable pub left_by_all : List (Option (Conn RefState)) → List (List RefState) → List (List RefState)
left_by_all [] lists = lists
left_by_all (place ∷ places) lists = left_if place (left_by_all places lists)
