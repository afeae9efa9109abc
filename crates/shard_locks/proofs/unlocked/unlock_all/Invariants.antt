use Rattle.std.proofs.Common.{◌≡◌, ◌+◌, ◌≤◌, length, vec_len, vec_capacity}
use Rattle.shard_locks.specs.Shared.{AreKept}
use Rattle.shard_locks.proofs.unlocked.unlock_all.Given as goal

abbrev pub invariant-loop-lock : goal.invariant-loop-lock
invariant-loop-lock g l = record {
  room : vec_len l.books + vec_len l.locks ≤ vec_capacity l.books;
  keepers : vec_len l.keepers + vec_len l.locks ≤ vec_capacity l.keepers;
  same : length l.books.items + length l.locks.items ≡ length l.fn.locks.items;
  kept : AreKept g.J.Naming.specs l.books.items l.keepers.items;
  capacity : vec_capacity l.locks ≡ vec_capacity l.fn.locks;
}

abbrev pub decreases-loop-lock : goal.decreases-loop-lock
decreases-loop-lock g l = vec_len l.locks
