-- A connection goes on by one event, or by one change of phase.
use Rattle.std.specs.Prelude.{◌≡◌, ◌⊎◌, ℕ, zero, suc, Bool, true, false, Option, Some, None, List}
use Rattle.stick_model.specs.declared.replies.Reply.{Reply}
use Rattle.admit_core.specs.Connection.{Connection, need, need_takes_memory, refused, turned}
use Rattle.admit_core.specs.Left.{is_still}
use Rattle.admit_core.specs.declared.need.Need.{Need}
use Rattle.admit_core.specs.declared.need.Need.TheVariants.{Rest, Turn, Finished}
use Rattle.admit_drive.specs.Calls.{AnswersAt, RefusesAt, call_of, heard}
use Rattle.admit_drive.specs.Tables.{TableState}
use Rattle.admit_port.specs.Calls.{Call}
use Rattle.shard_port.specs.declared.reference.Reference.{Reference}

-- a table, or the memory for a key, refuses; the books stay, and it goes on without the event
abbrev pub IsRefused : List TableState → Connection Reference → Option Call → Type 0
IsRefused tables connection None = ⊥
IsRefused tables connection (Some call) = RefusesAt tables call ⊎ (need_takes_memory connection.setup (need connection) ≡ true)

-- a shard answers
abbrev pub IsAnswered : List TableState → Connection Reference → Option Call → List TableState → Connection Reference → Type 0
IsAnswered old connection None new after = ⊥
IsAnswered old connection (Some call) new after = (reply : Reply) × AnswersAt old call reply new × (after ≡ heard connection call.shard reply)

-- an event of it is made, or refused
abbrev pub Makes : List TableState → Connection Reference → Option Call → List TableState → Connection Reference → Bool → Type 0
Makes old connection call new after false = IsAnswered old connection call new after
Makes old connection call new after true = IsRefused old connection call × (new ≡ old) × (after ≡ refused connection None)

abbrev pub MovesBy : ℕ → List TableState → Connection Reference → Need → List TableState → Connection Reference → Bool → Type 0
MovesBy now old connection Rest new after was_refused = (new ≡ old) × (after ≡ connection) × (was_refused ≡ false)
MovesBy now old connection Finished new after was_refused = (new ≡ old) × (after ≡ connection) × (was_refused ≡ false)
MovesBy now old connection Turn new after was_refused = (new ≡ old) × (after ≡ turned connection) × (was_refused ≡ false)
MovesBy now old connection wanted new after was_refused =
    Makes old connection (call_of connection.setup.shards now connection.progress.held wanted) new after was_refused

-- at a moment in ms, what it wants is done, or refused; one that rests, or is finished, stays as it is
abbrev pub Moves : ℕ → List TableState → Connection Reference → List TableState → Connection Reference → Bool → Type 0
Moves now old connection new after was_refused = MovesBy now old connection (need connection) new after was_refused

-- ---- several moves

-- so many times it goes on, at one moment
abbrev pub Goes : ℕ → ℕ → List TableState → Connection Reference → List TableState → Connection Reference → Type 0
Goes now zero old connection new after = (new ≡ old) × (after ≡ connection)
Goes now (suc count) old connection new after =
    (middle : List TableState) × (next : Connection Reference) × (was_refused : Bool) × Moves now old connection middle next was_refused × Goes now count middle next new after

-- at one moment it goes on until it rests or is finished
pub record ComesToRest (now : ℕ) (old : List TableState) (connection : Connection Reference) (new : List TableState) (after : Connection Reference) : Type 0 where
  pub count : ℕ
  pub goes : Goes now count old connection new after
  pub still : is_still (need after) ≡ true
