-- What a caller knows of an answer, or of a refusal, without the book that gave it.
use Rattle.std.specs.Prelude.{◌≡◌, ℕ, ◌+◌, ◌<◌, ◌≤◌, Bool, true, ◌||◌}
use Rattle.stick_model.specs.State.{State}
use Rattle.stick_model.specs.Step.{Step}
use Rattle.stick_model.specs.Legal.{IsLegal}
use Rattle.stick_model.specs.Limits.{IsTableSpec}
use Rattle.stick_model.specs.Refusals.{has_life, IsRefused}
use Rattle.stick_model.specs.declared.events.Event.{Event}
use Rattle.stick_model.specs.declared.replies.Reply.{Reply}
use Rattle.stick_model.specs.declared.replies.Refusal.{Refusal}
use Rattle.stick_model.specs.declared.replies.Refusal.TheVariants.{Memory, Behind}
use Rattle.shard_book.specs.BookState.{may_grow}
use Rattle.shard_book.specs.SeatState.{SeatState, seen_of, after_call}

-- a table within the limits answered the event by a step from some legal state; its number there is above all that the seat
-- had seen of the shard; and the seat has the call
pub record Told (old : SeatState) (shard : ℕ) (event : Event) (reply : Reply) (new : SeatState) : Type 0 where
  pub before : State
  pub after : State
  pub limits : IsTableSpec before.spec
  pub legal : IsLegal before
  pub lives : has_life before event ≡ true
  pub step : Step before event reply after
  pub later : seen_of old shard ≤ before.events
  pub seat : new ≡ after_call old shard (before.events + 1) event reply

-- the same of a refusal: the table had counted less than the seat has seen; a growth was refused, of what is kept of the call
-- or in the table, and a release without a receipt needs none; or some legal table refuses the event so
abbrev pub IsRefusedTo : SeatState → ℕ → Event → Refusal → Type 0
IsRefusedTo seat shard event (Behind count front) = (front ≡ seen_of seat shard) × (count < front)
IsRefusedTo seat shard event Memory = (seat.keeps || may_grow event) ≡ true
IsRefusedTo seat shard event refusal = (before : State) × IsTableSpec before.spec × IsLegal before × (seen_of seat shard ≤ before.events) × IsRefused before event refusal

-- ---- with the book that gave it

-- why the book of a live table refuses a call, its seat not being behind
abbrev pub IsAskRefused : State → Bool → Event → Refusal → Type 0
IsAskRefused live keeps event Memory = (keeps || may_grow event) ≡ true
IsAskRefused live keeps event refusal = IsRefused live event refusal

-- why it refuses the call of a seat: it has counted less than the seat has seen, and tells both; or it hasn't, and refuses so
abbrev pub IsRefusedBy : State → SeatState → ℕ → Event → Refusal → Type 0
IsRefusedBy live seat shard event (Behind count front) = (count ≡ live.events) × (front ≡ seen_of seat shard) × (count < front)
IsRefusedBy live seat shard event refusal = (seen_of seat shard ≤ live.events) × IsAskRefused live seat.keeps event refusal
