use Rattle.std.proofs.Common.{ℕ}
use Rattle.shard_record.specs.Views.{at}
use Rattle.shard_record.specs.Telling.{IsSettled}
use Rattle.shard_record.proofs.DealingLemmas.{FirstAt, SeatAt}
use Rattle.shard_record.proofs.dealing.deal_seat.Given as goal

-- the books so far are gone through
abbrev pub invariant-loop-book : goal.invariant-loop-book
invariant-loop-book g l = record {
  first : (book : ℕ) → FirstAt l.kept l.number l.seats l.books l.book book (at book l.first);
  seat : (book : ℕ) → SeatAt l.number l.books l.book book (at book l.seat);
  settled : IsSettled l.seat;
}
