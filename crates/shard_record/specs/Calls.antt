-- Calls of one book, in the order in which they were answered.
use Rattle.std.specs.Prelude.{◌≡◌, ℕ, nat_eq, Bool, true, Some, List, [], ◌∷◌, map, filter}
use mathlib.Core.List.{IsPrefix}
use Rattle.stick_model.specs.Key.{Key}
use Rattle.stick_model.specs.State.{State, empty_table, key_of}
use Rattle.stick_model.specs.Step.{Step}
use Rattle.stick_model.specs.Limits.{IsTableSpec, IsTableEvent}
use Rattle.stick_model.specs.Refusals.{has_life}
use Rattle.stick_model.specs.Laws.{tickets_told}
use Rattle.stick_model.specs.Passed.{has_passed, passing_looks}
use Rattle.stick_model.specs.declared.rows.Ticket.{Ticket}
use Rattle.stick_model.specs.declared.events.Event.{Event}
use Rattle.stick_model.specs.declared.replies.Reply.{Reply}
use Rattle.shard_record.specs.declared.view.Call.{Call}

abbrev pub call : ℕ → Event → Reply → Call
call seat event reply = record { seat = seat; event = event; reply = reply }

-- a table is opened so: within the limits, and empty
pub record IsStart (start : State) : Type 0 where
  pub limits : IsTableSpec start.spec
  pub empty : start ≡ empty_table start.spec

-- a table that is `old` takes the event, has life left for it, and may answer it so and be `new`
pub record Answers (old : State) (event : Event) (reply : Reply) (new : State) : Type 0 where
  pub takes : IsTableEvent event
  pub lives : has_life old event ≡ true
  pub step : Step old event reply new

-- from `old` the calls may be answered so, one after another, and leave `new`
abbrev pub IsRecord : State → List Call → State → Type 0
IsRecord old [] new = new ≡ old
IsRecord old (one ∷ log) new = (middle : State) × Answers old one.event one.reply middle × IsRecord middle log new

-- the calls are all those of one table since it was opened, which is `live` now
pub record IsHistoryOf (log : List Call) (live : State) : Type 0 where
  pub start : State
  pub begins : IsStart start
  pub runs : IsRecord start log live

-- the same of some table
abbrev pub IsHistory : List Call → Type 0
IsHistory log = (live : State) × IsHistoryOf log live

-- ---- what the calls tell

abbrev pub events_in : List Call → List Event
events_in log = map (λ (one : Call). one.event) log

abbrev pub replies_in : List Call → List Reply
replies_in log = map (λ (one : Call). one.reply) log

-- those that a seat made, in their order
abbrev pub calls_by : ℕ → List Call → List Call
calls_by seat log = filter (λ (one : Call). nat_eq one.seat seat) log

-- a reference: its ticket, and the key by which it was told
abbrev pub Held : Type 0
Held = Ticket × Key

-- the references that are out after these calls, by what the replies tell
abbrev pub out_from : List Held → List Call → List Held
out_from tickets [] = tickets
out_from tickets (one ∷ log) = out_from (tickets_told one.event one.reply tickets) log

abbrev pub out : List Call → List Held
out log = out_from [] log

-- whether a reference has had, by these calls, a look whose row has at most `limit` references of the key
abbrev pub passed_in : Key → ℕ → List Call → Held → Bool
passed_in key limit log held = has_passed key (passing_looks key limit (events_in log) (replies_in log)) held

-- ---- one key

-- whenever a ticket is out, by two beginnings of one history, it is out by one key: that never changes
abbrev pub KeyLaw : Type 0
KeyLaw = (log one other : List Call) (ticket : Ticket) (key another : Key) → IsHistory log → IsPrefix one log → IsPrefix other log →
    key_of ticket (out one) ≡ Some key → key_of ticket (out other) ≡ Some another → another ≡ key
