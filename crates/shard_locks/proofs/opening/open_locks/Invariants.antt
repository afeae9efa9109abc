use Rattle.std.proofs.Common.{◌≡◌, ◌+◌, length}
use Rattle.shard_locks.proofs.opening.open_locks.Given as goal

abbrev pub invariant-loop-shard : goal.invariant-loop-shard
invariant-loop-shard g l = record {
  locks : length l.locks.items ≡ l.shard;
  dealt : l.dealer ≡ record l.fn.dealer { kept = l.fn.dealer.kept + l.shard };
}
