use Rattle.std.proofs.Common.{◌≡◌, ◌≤◌, ◌↔◌, length, drop, Some}
use Rattle.std.specs.Prelude.{slice_get}
use Rattle.shard_book.specs.SeatState.{receipts_at}
use Rattle.shard_book.specs.declared.receipt.Receipt.{Receipt}
use Rattle.shard_settling.specs.Settled.{told_to}
use Rattle.shard_settling.proofs.telling.is_told.Given as goal

abbrev pub invariant-loop-i : goal.invariant-loop-i
invariant-loop-i l = record {
  bound : l.next ≤ length l.receipts;
  here : (one : Receipt) → slice_get l.receipts l.next ≡ Some one → one.shard ≡ l.shard;
  same : (told_to l.shard l.seat l.calls l.replies ≡ receipts_at l.shard l.receipts) ↔ (told_to l.shard l.seat (drop l.i l.calls) (drop l.i l.replies) ≡ receipts_at l.shard (drop l.next l.receipts));
}
