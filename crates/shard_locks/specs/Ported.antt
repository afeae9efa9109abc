-- The port of a table that threads share, asked by one seat.
use Rattle.std.specs.Prelude.{◌≡◌, ℕ, Option, Some, None}
use Rattle.stick_model.specs.declared.events.Event.{Event}
use Rattle.stick_model.specs.declared.replies.Refusal.{Refusal}
use Rattle.stick_model.specs.declared.replies.Reply.{Reply}
use Rattle.shard_record.specs.Telling.{IsTold}
use Rattle.shard_port.specs.Port.{Meaning}
use Rattle.shard_book.specs.SeatState.{RefState}
use Rattle.shard_book.specs.Told.{Told}
use Rattle.shard_locks.specs.Shared.{IsOfShard}
use Rattle.shard_locks.specs.ShardsState.{IsReferenceRefused, SeatedState, book_of}
use Rattle.shard_locks.specs.declared.tracking.Tracking.{Tracking}
use Rattle.shard_locks.specs.declared.tracking.Tracking.TheVariants.{Tracked, Full, NoRefs}

-- the seat was told this; the record of the shard's book grew by just this call, as the seat knows, and is that of a table that was
-- made with the shard's part of the whole; and the table is the same
pub record SeatedAnswer (old : SeatedState) (shard : ℕ) (event : Event) (reply : Reply) (new : SeatedState) : Type 0 where
  pub told : Told old.seat shard event reply new.seat
  pub recorded : IsTold (book_of old.table shard) event reply old.known new.known
  pub of_shard : IsOfShard old.table shard new.known
  pub table : new.table ≡ old.table

-- a shard that is none of the table's is stale, and every other may refuse the seat
abbrev pub SeatedRefuse : SeatedState → ℕ → Event → Refusal → Type 0
SeatedRefuse old shard event refusal = IsReferenceRefused old.table.shards old.seat shard event refusal

abbrev pub seated_meaning : Meaning SeatedState RefState
seated_meaning = record {
  parts = λ seated. seated.table.shards;
  answers = SeatedAnswer;
  refuses = SeatedRefuse;
  made = λ shard ticket. record { shard = shard; ticket = ticket };
  shard_of = λ reference. reference.shard;
  ticket_of = λ reference. reference.ticket;
}

-- the reference that comes with what tracking a key is answered
abbrev pub came : Tracking RefState → Option RefState
came (Tracked reference row) = Some reference
came Full = None
came NoRefs = None
