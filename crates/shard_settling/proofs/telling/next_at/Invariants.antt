use Rattle.std.proofs.Common.{◌≡◌, drop}
use Rattle.shard_book.specs.SeatState.{receipts_at}
use Rattle.shard_settling.proofs.telling.next_at.Given as goal

abbrev pub invariant-loop-place : goal.invariant-loop-place
invariant-loop-place l = receipts_at l.shard (drop l.from l.receipts) ≡ receipts_at l.shard (drop l.place l.receipts)
