-- What a seat is: what one caller has asked of each shard of a table, and what it has seen there.
use Rattle.std.specs.Prelude.{◌≡◌, ℕ, ◌+◌, ◌≤◌, ◌^◌, nat_eq, Bool, true, List, [], ◌∷◌, ◌++◌, length, filter, replicate, slice_index, slice_set, if◌then◌else◌}
use Rattle.stick_model.specs.declared.rows.Ticket.{Ticket}
use Rattle.stick_model.specs.declared.events.Event.{Event}
use Rattle.stick_model.specs.declared.replies.Reply.{Reply}
use Rattle.shard_book.specs.declared.receipt.Receipt.{Receipt}

-- its number; of each shard the calls that were answered, and the number of the last event that it was told of; whether it
-- keeps receipts, and those that it has, in the order of its calls
pub record SeatState : Type 0 where
  pub number : ℕ
  pub calls : List ℕ
  pub seen : List ℕ
  pub keeps : Bool
  pub receipts : List Receipt

-- a reference: the shard that told its ticket, and the ticket
pub record RefState : Type 0 where
  pub shard : ℕ
  pub ticket : Ticket

abbrev pub calls_of : SeatState → ℕ → ℕ
calls_of seat shard = slice_index seat.calls shard

abbrev pub seen_of : SeatState → ℕ → ℕ
seen_of seat shard = slice_index seat.seen shard

-- the receipts of a shard, in their order
abbrev pub receipts_at : ℕ → List Receipt → List Receipt
receipts_at shard receipts = filter (λ (one : Receipt). nat_eq one.shard shard) receipts

-- a table has at most 64 shards; a seat saw as many events of a shard as it has calls there, or more; and where it keeps
-- receipts, it has one for each call
pub record IsSeat (seat : SeatState) : Type 0 where
  pub calls : length seat.calls ≡ 64
  pub seen : length seat.seen ≡ 64
  pub within : (shard : ℕ) → calls_of seat shard ≤ seen_of seat shard
  pub limit : (shard : ℕ) → seen_of seat shard ≤ 2 ^ 62
  pub kept : seat.keeps ≡ true → (shard : ℕ) → length (receipts_at shard seat.receipts) ≡ calls_of seat shard

-- ---- how a seat begins, and what a call does to it

abbrev pub fresh : ℕ → Bool → SeatState
fresh number keeps = record { number = number; calls = replicate 64 0; seen = replicate 64 0; keeps = keeps; receipts = [] }

abbrev pub receipt : ℕ → Event → Reply → Receipt
receipt shard event reply = record { shard = shard; event = event; reply = reply }

-- the receipts with that of one call more, where receipts are kept
abbrev pub kept_receipts : Bool → List Receipt → ℕ → Event → Reply → List Receipt
kept_receipts keeps receipts shard event reply = if keeps then receipts ++ receipt shard event reply ∷ [] else receipts

-- the seat with one call more of a shard, which is the event of that number there
abbrev pub after_call : SeatState → ℕ → ℕ → Event → Reply → SeatState
after_call seat shard number event reply = record seat {
  calls = slice_set seat.calls shard (calls_of seat shard + 1);
  seen = slice_set seat.seen shard number;
  receipts = kept_receipts seat.keeps seat.receipts shard event reply;
}
