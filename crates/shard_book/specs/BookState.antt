-- What a book is: a table's calls since a base, in the order in which they were answered, each with the seat that made it.
use Rattle.std.specs.Prelude.{All, ◌≡◌, ℕ, ◌+◌, ◌-◌, ◌≤◌, nat_eq, Bool, true, false, List, [], ◌∷◌, ◌++◌, length, map, filter}
use Rattle.stick_model.specs.State.{State, empty_table}
use Rattle.stick_model.specs.Step.{Step, slot_of}
use Rattle.stick_model.specs.Run.{LastingRun}
use Rattle.stick_model.specs.Legal.{IsLegal}
use Rattle.stick_model.specs.Limits.{IsTableSpec, IsTableEvent}
use Rattle.stick_model.specs.Refusals.{IsRefused}
use Rattle.stick_model.specs.declared.specification.Spec.{Spec}
use Rattle.stick_model.specs.declared.events.Stored.{Stored}
use Rattle.stick_model.specs.declared.events.Event.{Event}
use Rattle.stick_model.specs.declared.events.Event.TheVariants.{Release}
use Rattle.stick_model.specs.declared.replies.Reply.{Reply}
use Rattle.stick_model.specs.declared.replies.Reply.TheVariants.{Tracked, Released}
use Rattle.stick_model.specs.declared.replies.Refusal.{Refusal}
use Rattle.stick_model.specs.declared.replies.Refusal.TheVariants.{Memory}
use Rattle.shard_book.specs.declared.recorded.Recorded.{Recorded}

-- what the table was, the calls recorded since, and what it is now
pub record BookState : Type 0 where
  pub base : State
  pub calls : List Recorded
  pub live : State

abbrev pub stored_of : List Recorded → List Stored
stored_of calls = map (λ (call : Recorded). call.stored) calls

-- from a legal base, of a table within the limits, the recorded calls, each of an event that a table takes and that had
-- life left where it was made, lead with some replies to the live state, which is legal too
pub record IsBook (book : BookState) : Type 0 where
  pub limits : IsTableSpec book.base.spec
  pub base_legal : IsLegal book.base
  pub events : All (λ (call : Recorded). IsTableEvent call.stored.event) book.calls
  pub replies : List Reply
  pub run : LastingRun book.base (stored_of book.calls) replies book.live
  pub live_legal : IsLegal book.live

-- ---- what each seat was told

-- a recorded call, and its reply
pub record Answered : Type 0 where
  pub call : Recorded
  pub reply : Reply

-- recorded calls with their replies, in their order
abbrev pub answered : List Recorded → List Reply → List Answered
answered [] replies = []
answered (call ∷ calls) [] = []
answered (call ∷ calls) (reply ∷ replies) = record { call = call; reply = reply } ∷ answered calls replies

-- those of them that a seat made, in their order
abbrev pub of_seat : ℕ → List Answered → List Answered
of_seat seat all = filter (λ (one : Answered). nat_eq one.call.seat seat) all

-- the calls of a book's record that a seat made, in their order, with the replies that its run gives
abbrev pub told_to : ℕ → (book : BookState) → IsBook book → List Answered
told_to seat book is = of_seat seat (answered book.calls is.replies)

-- ---- how a book begins, and how it grows

-- the book of an empty table
abbrev pub opened : Spec → BookState
opened spec = record { base = empty_table spec; calls = []; live = empty_table spec }

-- the live state as the base, with no calls since
abbrev pub rolled : BookState → BookState
rolled book = record { base = book.live; calls = []; live = book.live }

-- how a call is recorded: its seat, its event, and the slot that its reply tells
abbrev pub recorded : ℕ → Event → Reply → Recorded
recorded seat event reply = record { seat = seat; stored = record { event = event; slot = slot_of reply } }

-- the live table answered the event by a step, the call is recorded with its seat behind the others, and the base stays
pub record Extends (old : BookState) (seat : ℕ) (event : Event) (reply : Reply) (new : BookState) : Type 0 where
  pub step : Step old.live event reply new.live
  pub calls : new.calls ≡ old.calls ++ recorded seat event reply ∷ []
  pub base : new.base ≡ old.base

-- whether a call may need memory: a release has its place in the record, and its step needs none
abbrev pub may_grow : Event → Bool
may_grow (Release now ticket) = false
may_grow _ = true

-- why a call may be refused: a growth was refused, of the record or in the table; or as the live table refuses it
abbrev pub IsCallRefused : State → Event → Refusal → Type 0
IsCallRefused live event Memory = may_grow event ≡ true
IsCallRefused live event refusal = IsRefused live event refusal

-- ---- the record's places

-- how many tickets are out after a reply
abbrev pub out_after : ℕ → Reply → ℕ
out_after out (Tracked ticket row) = out + 1
out_after out Released = out - 1
out_after out _ = out

-- the tickets that are out are counted, and the record has a place for the release of each
pub record HasPlaces (live : State) (used capacity out : ℕ) : Type 0 where
  pub counted : out ≡ length live.tickets
  pub room : used + out ≤ capacity
