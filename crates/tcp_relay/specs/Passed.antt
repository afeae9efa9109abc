-- What the reference of an admitted connection has had, by the record of its shard's book; and of all that a worker holds.
use Rattle.std.specs.Prelude.{◌≡◌, ℕ, nat_le, Bool, true, false, ◌&&◌, Option, Some, List, slice_get}
use Rattle.std.specs.List.{list_any}
use Rattle.stored_data.specs.declared.datum.Datum.TheVariants.{ConnCur}
use Rattle.stick_key.specs.Shard.{shard}
use Rattle.stick_model.specs.Key.{Key, same_key}
use Rattle.stick_model.specs.State.{same_ticket}
use Rattle.stick_model.specs.declared.rows.Ticket.{Ticket}
use Rattle.stick_model.specs.declared.events.Event.{Event}
use Rattle.stick_model.specs.declared.events.Event.TheVariants.{Look}
use Rattle.stick_model.specs.declared.replies.Reply.{Reply}
use Rattle.stick_model.specs.declared.replies.Reply.TheVariants.{Row as ARow}
use Rattle.shard_record.specs.declared.view.Call.{Call}
use Rattle.shard_record.specs.Calls.{IsHistory, passed_in}
use Rattle.shard_book.specs.SeatState.{RefState}
use Rattle.shard_locks.specs.Ported.{seated_meaning}
use Rattle.shard_locks.specs.Shared.{WasOut}
use Rattle.shard_locks.specs.ShardsState.{SeatedState}
use Rattle.rule_model.specs.declared.actions.KeyExpression.TheVariants as keys
use Rattle.rule_model.specs.declared.actions.Slot.TheVariants.{Sc0}
use Rattle.rule_model.specs.declared.sections.Setup.{Setup}
use Rattle.rule_change.specs.Versions.{IsVersionOf}
use Rattle.rule_eval.specs.Limit.{LimitsFirst}
use Rattle.rule_eval.specs.Readings.{value_in}
use Rattle.rule_eval.specs.Tables.{key_of as source_key}
use Rattle.rule_eval.specs.declared.wants.Samples.{Samples}
use Rattle.admit_core.specs.Conn.{progress_of, Stands}
use Rattle.admit_core.specs.Connection.{Connection}
use Rattle.admit_core.specs.Held.{held_at}
use Rattle.admit_core.specs.declared.conn.Conn.{Conn}
use Rattle.admit_port.specs.Moves.{Moves}
use Rattle.admit_port.specs.declared.moved.Moved.{Moved}
use Rattle.tcp_relay.specs.Untracked.{IsUntrackedFor, known_of}

-- ---- of the calls of a book

-- whether a call is a look by the ticket, whose row is of the key and shows at most so many current connections
abbrev pub few_in : Key → ℕ → Ticket → Event → Reply → Bool
few_in key limit ticket (Look now looked) (ARow row) = same_ticket ticket looked && (same_key key row.key && nat_le (value_in row.cells ConnCur) limit)
few_in key limit ticket _ _ = false

abbrev pub shows_few : Key → ℕ → Ticket → Call → Bool
shows_few key limit ticket one = few_in key limit ticket one.event one.reply

-- they are all the calls of one table. By them the reference is of the key, which lies on its shard, and it had a look whose row
-- shows at most `limit` current connections of that key. So it has passed: as the table stores conn_cur, the row had at most so
-- many references
pub record HasPassed (shards limit : ℕ) (key : Key) (log : List Call) (reference : RefState) : Type 0 where
  pub history : IsHistory log
  pub on_shard : reference.shard ≡ shard key shards
  pub of_key : WasOut log reference.ticket key
  pub looked : list_any (shows_few key limit reference.ticket) log ≡ true
  pub passed : passed_in key limit log (reference.ticket, key) ≡ true

-- ---- as seats know them

-- the reference is of the key of the connection's source, and has passed by what the seat of its table knows
pub record HasPassedBy (setup : Setup) (samples : Samples) (limit : ℕ) (seats : List SeatedState) (entry : ℕ × RefState) : Type 0 where
  pub key : Key
  pub source : source_key setup samples keys.Source entry.0 ≡ Some key
  pub seat : SeatedState
  pub at : slice_get seats entry.0 ≡ Some seat
  pub has : HasPassed setup.shards limit key (known_of seat entry.1.shard) entry.1

-- behind rules that begin by tracking the source and refusing it beyond a limit, the reference that it holds by sc0 is one of that
-- table, and has passed
abbrev pub HasPassedLimits : Setup → Samples → List SeatedState → Conn RefState → Type 0
HasPassedLimits setup samples seats conn =
    (name : List ℕ) (table limit : ℕ) (entry : ℕ × RefState) → LimitsFirst setup name table limit → held_at (progress_of conn).held Sc0 ≡ Some entry → (entry.0 ≡ table) × HasPassedBy setup samples limit seats entry

-- ---- of the connections that a worker holds

-- this setup judges it, and it stands as one does that came with these samples
abbrev pub IsOf : Setup → Samples → Conn RefState → Type 0
IsOf setup samples conn = ∥ ((connection : Connection RefState) × Stands conn connection × (connection.setup ≡ setup) × (connection.samples ≡ samples)) ∥₁

-- it came with these samples, and by them it has passed, or it is untracked for a cause
abbrev pub HasPassedAs : Setup → Samples → List SeatedState → Conn RefState → Type 0
HasPassedAs setup samples seats conn = IsOf setup samples conn × HasPassedLimits setup samples seats conn × IsUntrackedFor setup samples seats conn

-- a version of these first rules judges it, and it has passed by that one and by samples with which it may have come
abbrev pub HasPassedIn : Setup → List SeatedState → Conn RefState → Type 0
HasPassedIn first seats conn = ∥ ((setup : Setup) × IsVersionOf first setup × (samples : Samples) × HasPassedAs setup samples seats conn) ∥₁

-- each connection that has passed by what the seats knew has passed by what they know then
abbrev pub HavePassedStill : List SeatedState → List SeatedState → Type 0
HavePassedStill old new = (first : Setup) (conn : Conn RefState) → HasPassedIn first old conn → HasPassedIn first new conn

-- one that is open in this place has passed
abbrev pub Passes : {X : Type 0} → (X → Bool) → (X → Conn RefState) → Setup → List SeatedState → Option X → Type 0
Passes {X = X} is_open conn_of first seats place = (one : X) → place ≡ Some one → is_open one ≡ true → HasPassedIn first seats (conn_of one)

-- each connection that is open in a place has passed
abbrev pub HaveAllPassed : {X : Type 0} → (X → Bool) → (X → Conn RefState) → Setup → List SeatedState → List (Option X) → Type 0
HaveAllPassed {X = X} is_open conn_of first seats places = (place : ℕ) (one : X) → slice_get places place ≡ Some (Some one) → is_open one ≡ true → HasPassedIn first seats (conn_of one)

-- none came in a place: where the one that was open there had passed, the one that is has
abbrev pub StaysThere : {X : Type 0} → (X → Bool) → (X → Conn RefState) → Option X → Option X → Type 0
StaysThere is_open conn_of old new = (first : Setup) (seats : List SeatedState) → Passes is_open conn_of first seats old → Passes is_open conn_of first seats new

-- none came in any place: where all that were open had passed, all that are open have
abbrev pub NoneCame : {X : Type 0} → (X → Bool) → (X → Conn RefState) → List (Option X) → List (Option X) → Type 0
NoneCame is_open conn_of old new = (first : Setup) (seats : List SeatedState) → HaveAllPassed is_open conn_of first seats old → HaveAllPassed is_open conn_of first seats new

-- ---- laws

-- whatever a connection does by the seats, a reference that has passed by what they knew has passed by what they know then
abbrev pub PassedStaysLaw : Type 0
PassedStaysLaw = (setup : Setup) (samples : Samples) (limit now : ℕ) (old new : List SeatedState) (connection after : Connection RefState) (moved : Moved) (entry : ℕ × RefState) →
    Moves seated_meaning now old connection new after moved → HasPassedBy setup samples limit old entry → HasPassedBy setup samples limit new entry
