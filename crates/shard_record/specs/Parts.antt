-- One record of a book's calls, and what each token knows of it.
use Rattle.std.specs.Prelude.{◌≡◌, ℕ, ◌+◌, ◌≤◌, nat_eq, nat_le, Bool, true, false, cond, List, [], ◌∷◌, ◌++◌, length, map, sum_by, count_by}
use Rattle.std.specs.List.{AllByRecursion}
use mathlib.Core.Option.{some}
use mathlib.Core.List.{IsPrefix}
use lib.ListN.{get_elem?}
use Rattle.stick_model.specs.Key.{Key}
use Rattle.stick_model.specs.State.{State}
use Rattle.stick_model.specs.Laws.{tickets_told}
use Rattle.stick_model.specs.declared.events.Event.{Event}
use Rattle.stick_model.specs.declared.events.Event.TheVariants.{Release}
use Rattle.stick_model.specs.declared.replies.Reply.{Reply}
use Rattle.stick_model.specs.declared.replies.Reply.TheVariants.{Released}
use Rattle.shard_record.specs.declared.view.Call.{Call}
use Rattle.shard_record.specs.declared.view.Caller.{Caller}
use Rattle.shard_record.specs.declared.view.Part.{Part}
use Rattle.shard_record.specs.Calls.{Answers, Held, IsHistory, IsHistoryOf, call, calls_by, out, passed_in}

-- ---- what a token may know

-- it keeps the whole record, and has nothing else
abbrev pub keeper : List Call → Part
keeper log = record { keeps = true; log = log; told = []; held = []; callers = [] }

-- it knows so much of the record, and has these references
abbrev pub holder : List Call → List Held → Part
holder log held = record { keeps = false; log = log; told = []; held = held; callers = [] }

-- it knows so much of the record, and may call for these seats
abbrev pub speaker : List Call → List Caller → Part
speaker log callers = record { keeps = false; log = log; told = []; held = []; callers = callers }

-- it knows nothing, and has nothing
abbrev pub nobody : Part
nobody = holder [] []

abbrev pub caller : ℕ → List Call → Caller
caller number mine = record { number = number; mine = mine }

abbrev pub is_caller : ℕ → Caller → Bool
is_caller number one = nat_eq number one.number

-- the number of the one seat
abbrev pub caller_number : List Caller → ℕ
caller_number [] = 0
caller_number (one ∷ more) = one.number

-- each seat's calls are all those in the record that have its number
abbrev pub AreTheirs : List Call → List Caller → Type 0
AreTheirs log callers = AllByRecursion (λ (one : Caller). one.mine ≡ calls_by one.number log) callers

-- ---- the rule

abbrev pub total : (Part → ℕ) → List Part → ℕ
total f [] = 0
total f (part ∷ parts) = f part + total f parts

-- what a token's references weigh
abbrev pub weight : (Held → ℕ) → Part → ℕ
weight h part = sum_by h part.held

-- how often a token may call for a seat
abbrev pub seats_of : ℕ → Part → ℕ
seats_of number part = count_by (is_caller number) part.callers

-- the token that keeps the record knows it whole, and is the only one that does; each token knows a beginning of it, and its
-- seats have made just the calls that stand there by their numbers
pub record Fits (kept_by : ℕ) (log : List Call) (by : ℕ) (part : Part) : Type 0 where
  pub keeps : part.keeps ≡ true → (by ≡ kept_by) × (part.log ≡ log)
  pub begins : IsPrefix part.log log
  pub told : IsPrefix part.told log
  pub mine : AreTheirs log part.callers

-- there is one record, all calls of one table since it was opened. Each token fits it; the references that are out after it are
-- those that tokens have, each once, however they are weighed; and no two tokens may call for one seat
pub record Kept (parts : List Part) : Type 0 where
  pub kept_by : ℕ
  pub log : List Call
  pub live : State
  pub history : IsHistoryOf log live
  pub fits : (by : ℕ) (part : Part) → get_elem? parts by ≡ some part → Fits kept_by log by part
  pub balanced : (h : Held → ℕ) → total (weight h) parts ≡ sum_by h (out log)
  pub single : (number : ℕ) → total (seats_of number) parts ≤ 1

-- ---- a call is noted

-- who releases a reference has it
abbrev pub Owns : List Held → Event → Reply → Type 0
Owns held (Release now ticket) Released = (key : Key) × (held ≡ (ticket, key) ∷ [])
Owns held event reply = Unit {0}

-- the table whose record the token keeps has answered the event for the one seat for which it may call
pub record MayAppend (part : Part) (event : Event) (reply : Reply) : Type 0 where
  pub keeps : part.keeps ≡ true
  pub live : State
  pub next : State
  pub history : IsHistoryOf part.log live
  pub answers : Answers live event reply next
  pub owns : Owns part.held event reply
  pub mine : List Call
  pub caller : part.callers ≡ caller (caller_number part.callers) mine ∷ []

abbrev pub has_called : Call → Caller → Caller
has_called one by = record { number = by.number; mine = by.mine ++ one ∷ [] }

-- the call stands behind the others, and is its seat's last; a reference that it made is the token's, and one that it gave back is gone
abbrev pub appended : Event → Reply → Part → Part
appended event reply part = record {
  keeps = part.keeps;
  log = part.log ++ call (caller_number part.callers) event reply ∷ [];
  told = part.told;
  held = tickets_told event reply part.held;
  callers = map (has_called (call (caller_number part.callers) event reply)) part.callers;
}

-- ---- what is known is compared

-- of two beginnings of one record the longer
abbrev pub longer : List Call → List Call → List Call
longer one other = cond (nat_le (length other) (length one)) one other

abbrev pub compared : Part → Part
compared part = record { keeps = part.keeps; log = longer part.log part.told; told = []; held = part.held; callers = part.callers }

-- of the references that a token has, at most `limit` of a key have had a look that shows at most `limit`
abbrev pub IsWithin : Part → Type 0
IsWithin part = (key : Key) (limit : ℕ) → count_by (passed_in key limit part.log) part.held ≤ limit

-- what a token knew and was told begins what it knows then, which is the history of one table. If it keeps the record, that is
-- what it knew, its references are out, and its seats have made the calls that stand there by their numbers
pub record IsCompared (old new : Part) : Type 0 where
  pub knew : IsPrefix old.log new.log
  pub told : IsPrefix old.told new.log
  pub whole : old.keeps ≡ true → new.log ≡ old.log
  pub history : IsHistory new.log
  pub within : IsWithin new
  pub out : old.keeps ≡ true → (h : Held → ℕ) → sum_by h old.held ≤ sum_by h (out old.log)
  pub mine : old.keeps ≡ true → AreTheirs old.log old.callers

-- ---- a token is cut in two, and two are put together

-- the references go to another token, which knows as much
abbrev pub without_held : Part → Part
without_held part = record { keeps = part.keeps; log = part.log; told = part.told; held = []; callers = part.callers }

abbrev pub held_alone : Part → Part
held_alone part = holder part.log part.held

-- the seats go to another token, which knows as much
abbrev pub without_callers : Part → Part
without_callers part = record { keeps = part.keeps; log = part.log; told = part.told; held = part.held; callers = [] }

abbrev pub callers_alone : Part → Part
callers_alone part = speaker part.log part.callers

-- one is told what another knows, and takes its references and its seats
abbrev pub joined : Part → Part → Part
joined part other = record { keeps = part.keeps; log = part.log; told = other.log; held = part.held ++ other.held; callers = part.callers ++ other.callers }
