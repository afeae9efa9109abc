-- What rows show of the references that connections hold.
use Rattle.std.specs.Prelude.{◌≡◌, ℕ, ◌+◌, Bool, ◌&&◌, false, true, cond, Option, Some, List, length, slice_get, sum_by}
use Rattle.std.specs.Option.{option_map_or}
use Rattle.stick_key.specs.Shard.{shard}
use Rattle.stored_data.specs.Stored.{is_column}
use Rattle.stored_data.specs.declared.datum.Datum.TheVariants.{ConnCur}
use Rattle.stick_model.specs.Key.{Key, same_key}
use Rattle.stick_model.specs.State.{State, record_at, row}
use Rattle.stick_model.specs.declared.replies.Reply.TheVariants.{Row as ARow}
use Rattle.stick_model.specs.declared.rows.Record.{Record}
use Rattle.stick_model.specs.declared.rows.Row.{Row}
use Rattle.rule_model.specs.declared.sections.Setup.{Setup}
use Rattle.rule_eval.specs.Readings.{value_in}
use Rattle.admit_core.specs.Connection.{Connection, need}
use Rattle.admit_core.specs.declared.held.Held.{Held}
use Rattle.admit_drive.specs.Calls.{AnswersAt, call_of}
use Rattle.admit_world.specs.Limit.{is_in, key_held}
use Rattle.admit_drive.specs.Tables.{CanOpen, TableState, shard_at}
use Rattle.admit_world.specs.World.{Elements, IsSchedule, WorldState, begun}
use Rattle.admit_port.specs.Calls.{Call}
use Rattle.shard_port.specs.declared.reference.Reference.{Reference}
use Rattle.admit_world.specs.declared.visit.Visit.{Visit}

-- whether what a slot holds is a reference of the key, in the table
abbrev pub is_of_key : List TableState → ℕ → Key → Option (ℕ × Reference) → Bool
is_of_key tables table key held = is_in table held && option_map_or (same_key key) (key_held tables held) false

-- how many of the slots hold one
abbrev pub slots_of_key : List TableState → ℕ → Key → Held Reference → ℕ
slots_of_key tables table key held =
    cond (is_of_key tables table key held.sc0) 1 0 + cond (is_of_key tables table key held.sc1) 1 0 + cond (is_of_key tables table key held.sc2) 1 0

-- how many references of the key, in the table, connections hold
abbrev pub references_of : WorldState → ℕ → Key → ℕ
references_of world table key = sum_by (λ (connection : Connection Reference). slots_of_key world.tables table key connection.progress.held) world.connections

-- ---- laws

-- whatever the schedule, in a table that stores conn_cur the row of a key shows of it how many references of the key connections hold
abbrev pub RowsLaw : Type 0
RowsLaw = (setup : Setup) (visits : List Visit) (schedule : List (ℕ × ℕ)) (world : WorldState) (count table : ℕ) (key : Key) (live : State) (found : Record) →
    CanOpen setup → IsSchedule (length visits) schedule → Elements visits (begun setup visits) schedule world count →
    shard_at world.tables table (shard key setup.shards) ≡ Some live → is_column live.spec.columns ConnCur ≡ true → record_at key live.records ≡ Some found →
    value_in (row live key found).cells ConnCur ≡ references_of world table key

-- and so does each row that a connection is answered
abbrev pub AnsweredRowsLaw : Type 0
AnsweredRowsLaw = (setup : Setup) (visits : List Visit) (schedule : List (ℕ × ℕ)) (world : WorldState) (count i now : ℕ) (connection : Connection Reference) (call : Call) (live : State) (shown : Row) (new : List TableState) →
    CanOpen setup → IsSchedule (length visits) schedule → Elements visits (begun setup visits) schedule world count →
    slice_get world.connections i ≡ Some connection → call_of setup.shards now connection.progress.held (need connection) ≡ Some call →
    shard_at world.tables call.table call.shard ≡ Some live → is_column live.spec.columns ConnCur ≡ true → AnswersAt world.tables call (ARow shown) new →
    value_in shown.cells ConnCur ≡ references_of world call.table shown.key
