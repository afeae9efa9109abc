use Rattle.std.proofs.Common.{◌≡◌, ◌+◌, drop}
use Rattle.shard_settling.specs.Settled.{made_by}
use Rattle.shard_settling.proofs.counts.is_sum.Given as goal

abbrev pub invariant-loop-seat : goal.invariant-loop-seat
invariant-loop-seat g l = l.count + made_by (drop l.seat-index l.seats) l.shard ≡ l.left + made_by l.seats l.shard
