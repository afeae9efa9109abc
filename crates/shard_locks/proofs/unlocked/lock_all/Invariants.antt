use Rattle.std.proofs.Common.{◌≡◌, ◌+◌, ◌≤◌, length, vec_len, vec_capacity}
use Rattle.shard_locks.specs.Shared.{AreKept}
use Rattle.shard_locks.proofs.unlocked.lock_all.Given as goal

abbrev pub invariant-loop-book : goal.invariant-loop-book
invariant-loop-book g l = record {
  kept : AreKept g.J.Naming.specs l.books.items l.keepers.items;
  room : vec_len l.books + vec_len l.room ≤ vec_capacity l.room;
  same : length l.books.items + length l.room.items ≡ length l.fn.books.items;
}

abbrev pub decreases-loop-book : goal.decreases-loop-book
decreases-loop-book g l = vec_len l.books
