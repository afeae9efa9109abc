-- What the steps of a run count of a key, and when a record's rate is that of these counts.
use Rattle.std.specs.Prelude.{◌≡◌, ℕ, List, [], ◌∷◌, ◌++◌, fold, max, Bool, false, if◌then◌else◌, Option, Some, None, is_some}
use Rattle.std.specs.Option.{option_map_or}
use Rattle.rate_window.specs.Rate.{Count as Rated, AreUpTo, tally, rate}
use Rattle.stored_data.specs.Acts.{change, content_of, value_at}
use Rattle.stored_data.specs.Fields.{plain}
use Rattle.stored_data.specs.declared.datum.Datum.{Datum}
use Rattle.stored_data.specs.declared.stored_set.Column.{Column}
use Rattle.stored_data.specs.declared.values.Content.TheVariants.{Rate}
use Rattle.stored_data.specs.declared.values.StoredValue.{StoredValue}
use Rattle.stored_data.specs.declared.act.Act.{Act}
use Rattle.stored_data.specs.declared.act.Change.{Change}
use Rattle.stored_data.specs.declared.act.Change.TheVariants.{Add}
use Rattle.stored_data.specs.declared.act.Act.TheVariants.{Connection}
use Rattle.stick_model.specs.Key.{Key, same_key}
use Rattle.stick_model.specs.State.{State, record_at, advance}
use Rattle.stick_model.specs.Limits.{moment_of}
use Rattle.stick_model.specs.Step.{subject_of}
use Rattle.stick_model.specs.Run.{Run}
use Rattle.stick_model.specs.declared.events.Event.{Event}
use Rattle.stick_model.specs.declared.events.Event.TheVariants.{Track, Count}
use Rattle.stick_model.specs.declared.replies.Reply.{Reply}
use Rattle.stick_model.specs.declared.replies.Reply.TheVariants.{Tracked, Value}

-- a step of a run, from the state before it
pub record Taken : Type 0 where
  pub before : State
  pub event : Event
  pub reply : Reply

-- the steps of a run
abbrev pub steps_of : (old : State) (events : List Event) (replies : List Reply) (new : State) → Run old events replies new → List Taken
steps_of old [] [] new run = []
steps_of old (event ∷ events) (reply ∷ replies) new run = record { before = old; event = event; reply = reply } ∷ steps_of run.0 events replies new run.2
steps_of old [] (reply ∷ replies) new run = []
steps_of old (event ∷ events) [] new run = []

-- the act that an event's reply tells to be counted: a connection for a new reference, and the act of a count
abbrev pub act_told : Event → Reply → Option Act
act_told (Track now key) (Tracked ticket row) = Some Connection
act_told (Count now ticket act) (Value value) = Some act
act_told event reply = None

-- the act that a step counts for a key
abbrev pub act_for : Key → Taken → Option Act
act_for key step = if option_map_or (same_key key) (subject_of step.before step.event) false then act_told step.event step.reply else None

-- what a change adds, at a moment
abbrev pub added : ℕ → Change → List Rated
added moment (Add n) = record { moment = moment; amount = n } ∷ []
added moment change = []

-- what a step counts of a key in a datum, at the clock
abbrev pub counted_by : Key → Datum → Taken → List Rated
counted_by key datum step = option_map_or (λ act. added (max step.before.clock (moment_of step.event)) (change act datum)) (act_for key step) []

-- whether the key still has its record when the clock has come to the step's moment
abbrev pub has_record : Key → Taken → Bool
has_record key step = is_some (record_at key (advance step.before (moment_of step.event)).records)

-- what was counted up to a step: a record that is gone took all before with it
abbrev pub counted_with : Key → Datum → List Rated → Taken → List Rated
counted_with key datum counts step = (if has_record key step then counts else []) ++ counted_by key datum step

-- what the steps of a run counted of a key in a datum since the key's record was made
abbrev pub counted_since : Key → Datum → List Taken → List Rated
counted_since key datum steps = fold (counted_with key datum) [] steps

-- a record keeps of a rate the tally of these counts, and shows their rate
pub record IsTallied (values : List StoredValue) (column : Column) (counts : List Rated) (clock : ℕ) : Type 0 where
  pub up_to : AreUpTo counts clock
  pub kept : content_of values (plain column.datum) ≡ Some (Rate (tally counts column.period))
  pub shown : value_at values (plain column.datum) clock ≡ Some (rate counts column.period clock)
