-- Runs: one event after another.
use Rattle.std.specs.Prelude.{◌≡◌, ℕ, ◌≤◌, List, [], ◌∷◌, length, map, take, drop, Some, unwrap_or, IfSome, IsTrue, ◌⊎◌}
use Rattle.stick_model.specs.State.{State}
use Rattle.stick_model.specs.Step.{Outcome, Step, slot_of, is_free_slot, after}
use Rattle.stick_model.specs.Refusals.{has_life, IsRefused}
use Rattle.stick_model.specs.declared.events.Stored.{Stored}
use Rattle.stick_model.specs.declared.events.Event.{Event}
use Rattle.stick_model.specs.declared.replies.Reply.{Reply}
use Rattle.stick_model.specs.declared.replies.Refusal.{Refusal}
use Rattle.stick_model.specs.declared.replies.Refusal.TheVariants.{Memory}

-- from `old` the events may be answered so, one after another, and leave `new`
abbrev pub Run : State → List Event → List Reply → State → Type 0
Run old [] [] new = new ≡ old
Run old (event ∷ events) (reply ∷ replies) new = (middle : State) × Step old event reply middle × Run middle events replies new
Run old [] (reply ∷ replies) new = ⊥
Run old (event ∷ events) [] new = ⊥

-- an event that can't be made next is refused so
abbrev pub RefusesFirst : State → List Event → Refusal → Type 0
RefusesFirst state [] refusal = ⊥
RefusesFirst state (event ∷ events) refusal = IsRefused state event refusal

-- there was no memory for the list of the replies, and so none of those that were asked was made
pub record HasNoRoom (done asked : ℕ) (refusal : Refusal) : Type 0 where
  pub none : done ≡ 0
  pub some : 1 ≤ asked
  pub memory : refusal ≡ Memory

-- where a run stopped: before its first event, for want of room for the replies; or so many events were answered, and the next one was refused
pub record RunStops (old : State) (events : List Event) (refusal : Refusal) (new : State) : Type 0 where
  pub done : ℕ
  pub replies : List Reply
  pub run : Run old (take done events) replies new
  pub why : HasNoRoom done (length events) refusal ⊎ RefusesFirst new (drop done events) refusal

-- ---- stored calls

abbrev pub events_of : List Stored → List Event
events_of calls = map (λ (call : Stored). call.event) calls

-- the calls that store a run
abbrev pub stored_calls : List Event → List Reply → List Stored
stored_calls [] replies = []
stored_calls (event ∷ events) [] = []
stored_calls (event ∷ events) (reply ∷ replies) = record { event = event; slot = slot_of reply } ∷ stored_calls events replies

-- from `old` the stored calls may be answered so, one after another, and leave `new`: each names the slot that its reply tells
abbrev pub StoredRun : State → List Stored → List Reply → State → Type 0
StoredRun old [] [] new = new ≡ old
StoredRun old (call ∷ calls) (reply ∷ replies) new =
    (middle : State) × (call.slot ≡ slot_of reply) × Step old call.event reply middle × StoredRun middle calls replies new
StoredRun old [] (reply ∷ replies) new = ⊥
StoredRun old (call ∷ calls) [] new = ⊥

-- the same, each event having life left where it is made: what a table stores is such a run
abbrev pub LastingRun : State → List Stored → List Reply → State → Type 0
LastingRun old [] [] new = new ≡ old
LastingRun old (call ∷ calls) (reply ∷ replies) new =
    (middle : State) × (call.slot ≡ slot_of reply) × IsTrue (has_life old call.event) × Step old call.event reply middle × LastingRun middle calls replies new
LastingRun old [] (reply ∷ replies) new = ⊥
LastingRun old (call ∷ calls) [] new = ⊥

-- ---- stored calls, made again

-- the reply to a stored call and the state after it: a reference that it makes gets the slot that the call names
abbrev pub redone : State → Stored → Outcome
redone old call = after old call.event (unwrap_or call.slot 0)

-- where it makes a reference, the call names its slot, and the slot is free
abbrev pub CanRedo : State → Stored → Type 0
CanRedo old call = IfSome (slot_of (redone old call).0) (λ slot. (call.slot ≡ Some slot) × IsTrue (is_free_slot old slot))

-- the replies to stored calls, one after another, and the state after them
abbrev pub redone_all : State → List Stored → List Reply × State
redone_all old [] = ([], old)
redone_all old (call ∷ calls) = let one : Outcome = redone old call in let rest = redone_all one.1 calls in (one.0 ∷ rest.0, rest.1)

abbrev pub CanRedoAll : State → List Stored → Type 0
CanRedoAll old [] = Unit {0}
CanRedoAll old (call ∷ calls) = CanRedo old call × CanRedoAll (redone old call).1 calls

-- where calls that are made again stopped: before the first, for want of room for the replies; or so many were answered, and the next one was refused
pub record RedoStops (old : State) (calls : List Stored) (refusal : Refusal) (new : State) : Type 0 where
  pub done : ℕ
  pub made : (redone_all old (take done calls)).1 ≡ new
  pub why : HasNoRoom done (length calls) refusal ⊎ RefusesFirst new (events_of (drop done calls)) refusal
