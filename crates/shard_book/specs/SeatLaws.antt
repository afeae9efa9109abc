-- Laws of seats: what a caller knows without the book.
use Rattle.std.specs.Prelude.{◌≡◌, ◌≢◌, ℕ, ◌+◌, ◌<◌, true, false, [], ◌∷◌, ◌++◌, None}
use Rattle.stick_model.specs.Step.{ticket_of}
use Rattle.stick_model.specs.declared.rows.Ticket.{Ticket}
use Rattle.stick_model.specs.declared.events.Event.{Event}
use Rattle.stick_model.specs.declared.events.Event.TheVariants.{Release}
use Rattle.stick_model.specs.declared.replies.Reply.{Reply}
use Rattle.stick_model.specs.declared.replies.Refusal.{Refusal}
use Rattle.stick_model.specs.declared.replies.Refusal.TheVariants.{Stale, Exhausted, Memory}
use Rattle.shard_book.specs.SeatState.{SeatState, IsSeat, calls_of, receipt, seen_of}
use Rattle.shard_book.specs.Told.{IsRefusedTo, Told}

-- ---- an answer

-- a seat has one call more of the shard, and has seen a later event there; where it keeps receipts it has that of the call
-- behind the others; all else is as it was
pub record HasCall (old : SeatState) (shard : ℕ) (event : Event) (reply : Reply) (new : SeatState) : Type 0 where
  pub calls : calls_of new shard ≡ calls_of old shard + 1
  pub seen : seen_of old shard < seen_of new shard
  pub kept : old.keeps ≡ true → new.receipts ≡ old.receipts ++ receipt shard event reply ∷ []
  pub bare : old.keeps ≡ false → new.receipts ≡ old.receipts
  pub others : (other : ℕ) → other ≢ shard → (calls_of new other ≡ calls_of old other) × (seen_of new other ≡ seen_of old other)
  pub number : new.number ≡ old.number
  pub keeps : new.keeps ≡ old.keeps

-- a seat that was told an answer has one call more
abbrev pub CallLaw : Type 0
CallLaw = (old : SeatState) (shard : ℕ) (event : Event) (reply : Reply) (new : SeatState) → IsSeat old → shard < 64 → Told old shard event reply new → HasCall old shard event reply new

-- ---- a refusal

-- an event that names no ticket is never refused as stale, nor a release as past the life; and a release for which no receipt
-- is kept only as stale, or as the table is behind
pub record RefusalLaw : Type 0 where
  pub no_ticket : (seat : SeatState) (shard : ℕ) (event : Event) (refusal : Refusal) → ticket_of event ≡ None → IsRefusedTo seat shard event refusal → refusal ≢ Stale
  pub release : (seat : SeatState) (shard now : ℕ) (ticket : Ticket) (refusal : Refusal) → IsRefusedTo seat shard (Release now ticket) refusal → refusal ≢ Exhausted
  pub bare_release : (seat : SeatState) (shard now : ℕ) (ticket : Ticket) (refusal : Refusal) → seat.keeps ≡ false → IsRefusedTo seat shard (Release now ticket) refusal → refusal ≢ Memory
