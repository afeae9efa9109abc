use Rattle.std.proofs.Common.{◌≡◌, map}
use Rattle.std.specs.List.{range_with_len}
use Rattle.shard_book.specs.Keeping.{part_of}
use Rattle.shard_locks.proofs.opening.specs_of_shards.Given as goal

abbrev pub invariant-loop-shard : goal.invariant-loop-shard
invariant-loop-shard l = l.specs.items ≡ map (part_of l.spec l.shards) (range_with_len 0 l.shard)
