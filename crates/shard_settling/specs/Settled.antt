-- When the books of a table's shards are settled: they agree with what the callers keep.
use Rattle.std.specs.Prelude.{◌≡◌, ℕ, ◌<◌, ◌≤◌, nat_eq, Bool, true, List, Some, All, length, map, filter, sum_by, slice_get, IsPermutation}
use Rattle.stick_model.specs.Key.{Key}
use Rattle.stick_model.specs.State.{State, empty_table}
use Rattle.stick_model.specs.Run.{StoredRun}
use Rattle.stick_model.specs.declared.specification.Spec.{Spec}
use Rattle.stick_model.specs.declared.rows.Ticket.{Ticket}
use Rattle.stick_model.specs.declared.replies.Reply.{Reply}
use Rattle.shard_book.specs.declared.recorded.Recorded.{Recorded}
use Rattle.shard_book.specs.BookState.{Answered, BookState, answered, of_seat, stored_of}
use Rattle.shard_book.specs.declared.receipt.Receipt.{Receipt}
use Rattle.shard_book.specs.SeatState.{RefState, SeatState, calls_of, receipt, receipts_at}
use Rattle.shard_locks.specs.Shared.{SharedSeatState}

-- ---- what is shown

-- how many calls of a shard the seats made
abbrev pub calls_made : List SeatState → ℕ → ℕ
calls_made seats shard = sum_by (λ (seat : SeatState). calls_of seat shard) seats

-- the same of seats as threads share them
abbrev pub made_by : List SharedSeatState → ℕ → ℕ
made_by seats shard = sum_by (λ (shared : SharedSeatState). calls_of shared.seat shard) seats

-- the tickets of the references to a shard
abbrev pub shown : ℕ → List RefState → List Ticket
shown shard refs = map (λ (reference : RefState). reference.ticket) (filter (λ (reference : RefState). nat_eq reference.shard shard) refs)

-- the seats have called none but so many shards, the first ones. A seat knows of 64
abbrev pub CallNoOther : ℕ → List SeatState → Type 0
CallNoOther shards seats = (other : ℕ) → shards ≤ other → other < 64 → calls_made seats other ≡ 0

-- the references are of these shards
abbrev pub AreOfShards : ℕ → List RefState → Type 0
AreOfShards shards refs = All (λ (reference : RefState). reference.shard < shards) refs

-- ---- what a book has

-- the tickets that are out
abbrev pub tickets_of : State → List Ticket
tickets_of state = map (λ (held : Ticket × Key). held.0) state.tickets

-- what shards have counted, and the tickets that are out there
abbrev pub counts_in : List BookState → List ℕ
counts_in books = map (λ (book : BookState). book.live.events) books

abbrev pub tickets_in : List BookState → List (List Ticket)
tickets_in books = map (λ (book : BookState). tickets_of book.live) books

-- a recorded call and its reply, as a seat keeps them
abbrev pub receipt_of : ℕ → Answered → Receipt
receipt_of shard one = receipt shard one.call.stored.event one.reply

-- the calls that a seat made, with these replies, as it keeps them
abbrev pub told_to : ℕ → ℕ → List Recorded → List Reply → List Receipt
told_to shard seat calls replies = map (receipt_of shard) (of_seat seat (answered calls replies))

-- each seat's receipts of the shard are its calls there with these replies, in their order, and no others
abbrev pub AreTold : ℕ → List SeatState → List Recorded → List Reply → Type 0
AreTold shard seats calls replies = All (λ (seat : SeatState). told_to shard seat.number calls replies ≡ receipts_at shard seat.receipts) seats

-- ---- one shard

-- its events are the calls that the seats made, and its tickets those of the references, each once
pub record IsCounted (seats : List SeatState) (refs : List RefState) (shard : ℕ) (book : BookState) : Type 0 where
  pub count : book.live.events ≡ calls_made seats shard
  pub tickets : IsPermutation (tickets_of book.live) (shown shard refs)

-- its record begins with the empty table, leads from there to the live one, and is what the seats were told
pub record IsWitnessed (seats : List SeatState) (shard : ℕ) (book : BookState) : Type 0 where
  pub base : book.base ≡ empty_table book.base.spec
  pub replies : List Reply
  pub run : StoredRun book.base (stored_of book.calls) replies book.live
  pub told : AreTold shard seats book.calls replies

-- its table is the shard's; and where receipts are kept, they witness its record
pub record IsRecorded (part : Spec) (keep : Bool) (seats : List SeatState) (shard : ℕ) (book : BookState) : Type 0 where
  pub spec : book.live.spec ≡ part
  pub witnessed : keep ≡ true → IsWitnessed seats shard book

-- ---- all shards

-- each shard is counted and recorded, and nothing is shown of others
pub record AreSettled (specs : List Spec) (keep : Bool) (seats : List SeatState) (refs : List RefState) (books : List BookState) : Type 0 where
  pub shards : length books ≡ length specs
  pub counted : (shard : ℕ) (book : BookState) → slice_get books shard ≡ Some book → IsCounted seats refs shard book
  pub recorded : (shard : ℕ) (book : BookState) (part : Spec) → slice_get books shard ≡ Some book → slice_get specs shard ≡ Some part → IsRecorded part keep seats shard book
  pub no_other_calls : CallNoOther (length books) seats
  pub no_other_refs : AreOfShards (length books) refs
