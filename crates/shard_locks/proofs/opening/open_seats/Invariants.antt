use Rattle.std.proofs.Common.{◌≡◌, ◌+◌}
use Rattle.shard_locks.specs.Shared.{seats_of}
use Rattle.shard_locks.specs.ShardsState.{fresh_seats}
use Rattle.shard_locks.proofs.opening.open_seats.Given as goal

abbrev pub invariant-loop-number : goal.invariant-loop-number
invariant-loop-number g l = record {
  made : seats_of l.made.items ≡ fresh_seats l.number l.keeps;
  dealt : l.dealer ≡ record l.fn.dealer { seated = l.fn.dealer.seated + l.number };
}
