use Rattle.std.proofs.Common.{◌≡◌, ◌≤◌, ◌<◌, ℕ}
use Rattle.shard_locks.specs.Shared.{seats_of}
use Rattle.shard_settling.specs.Settled.{calls_made}
use Rattle.shard_settling.proofs.counts.strange_calls.Given as goal

-- so far the seats have called no other
abbrev pub invariant-loop-shard : goal.invariant-loop-shard
invariant-loop-shard g l = (other : ℕ) → l.shards ≤ other → other < l.shard → calls_made (seats_of l.seats) other ≡ 0
