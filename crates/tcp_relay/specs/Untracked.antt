-- Why a connection is admitted that holds no reference by which its source is counted.
use Rattle.std.specs.Prelude.{◌≡◌, ℕ, Bool, true, false, ◌&&◌, Some, None, List, ◌∷◌, ◌++◌, slice_get}
use Rattle.std.specs.List.{list_any}
use Rattle.stick_key.specs.Shard.{shard}
use Rattle.stick_model.specs.Key.{Key, same_key}
use Rattle.stick_model.specs.declared.events.Event.{Event}
use Rattle.stick_model.specs.declared.events.Event.TheVariants.{Track}
use Rattle.stick_model.specs.declared.replies.Reply.{Reply}
use Rattle.stick_model.specs.declared.replies.Reply.TheVariants.{Full, NoRefs}
use Rattle.shard_record.specs.declared.view.Call.{Call}
use Rattle.shard_record.specs.Calls.{call}
use Rattle.shard_record.specs.Telling.{log_of, number_of}
use Rattle.shard_book.specs.SeatState.{RefState}
use Rattle.shard_locks.specs.ShardsState.{SeatedState, book_of}
use Rattle.rule_model.specs.declared.actions.KeyExpression.TheVariants as keys
use Rattle.rule_model.specs.declared.actions.Slot.TheVariants.{Sc0}
use Rattle.rule_model.specs.declared.sections.Setup.{Setup}
use Rattle.rule_eval.specs.Limit.{LimitsFirst}
use Rattle.rule_eval.specs.Tables.{key_of as source_key}
use Rattle.rule_eval.specs.declared.wants.Samples.{Samples}
use Rattle.admit_core.specs.Conn.{progress_of}
use Rattle.admit_core.specs.Held.{held_at}
use Rattle.admit_core.specs.declared.conn.Conn.{Conn}

-- the calls of a shard's book, as far as a seat knows its record
abbrev pub known_of : SeatedState → ℕ → List Call
known_of seat part = log_of (book_of seat.table part) seat.known

-- the number under which a seat calls a shard's book
abbrev pub number_at : SeatedState → ℕ → ℕ
number_at seat part = number_of (book_of seat.table part) seat.known

-- whether a track is given no reference by this reply: the table has no room for the key, or all its references are out
abbrev pub gives_none : Reply → Bool
gives_none Full = true
gives_none NoRefs = true
gives_none _ = false

-- whether a call is a track of the key that was given none
abbrev pub none_for : Key → Event → Reply → Bool
none_for key (Track now tracked) reply = same_key key tracked && gives_none reply
none_for key _ _ = false

abbrev pub is_none_for : Key → Call → Bool
is_none_for key one = none_for key one.event one.reply

-- between what the seats knew and what they know, the seat of the table has tracked the key under its own number, and was given none
pub record WasGivenNone (shards : ℕ) (old new : List SeatedState) (table : ℕ) (key : Key) : Type 0 where
  pub was : SeatedState
  pub was_at : slice_get old table ≡ Some was
  pub seat : SeatedState
  pub at : slice_get new table ≡ Some seat
  pub now : ℕ
  pub reply : Reply
  pub before : List Call
  pub after : List Call
  pub known : known_of seat (shard key shards) ≡ (known_of was (shard key shards) ++ before) ++ call (number_at was (shard key shards)) (Track now key) reply ∷ after
  pub none : gives_none reply ≡ true

-- by what the seats know, a track of the key was given none by the table
pub record HasGivenNone (shards : ℕ) (seats : List SeatedState) (table : ℕ) (key : Key) : Type 0 where
  pub seat : SeatedState
  pub at : slice_get seats table ≡ Some seat
  pub none : list_any (is_none_for key) (known_of seat (shard key shards)) ≡ true

-- behind rules that begin by tracking the source and refusing it beyond a limit, a connection that holds nothing by sc0, and whose source
-- is a key of that table, stands so to it and to its key
abbrev pub UntrackedSo : (ℕ → Key → Type 0) → Setup → Samples → Conn RefState → Type 0
UntrackedSo So setup samples conn =
    (name : List ℕ) (table limit : ℕ) (key : Key) → LimitsFirst setup name table limit → source_key setup samples keys.Source table ≡ Some key → held_at (progress_of conn).held Sc0 ≡ None → So table key

-- then its own track was given none since it came
abbrev pub IsUntrackedSince : List SeatedState → List SeatedState → Setup → Samples → Conn RefState → Type 0
IsUntrackedSince old new setup samples conn = UntrackedSo (WasGivenNone setup.shards old new) setup samples conn

-- then a track of its key was given none
abbrev pub IsUntrackedFor : Setup → Samples → List SeatedState → Conn RefState → Type 0
IsUntrackedFor setup samples seats conn = UntrackedSo (HasGivenNone setup.shards seats) setup samples conn
