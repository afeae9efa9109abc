use Rattle.std.proofs.Common.{◌≡◌, ◌+◌, ◌<◌, ℕ}
use Rattle.shard_book.specs.Keeping.{part_of}
use Rattle.test_calls.specs.Planned.{specs_in}
use Rattle.test_calls.proofs.records.are_planned.Given as goal

abbrev pub invariant-loop-shard : goal.invariant-loop-shard
invariant-loop-shard l = (i : ℕ) → i < l.shard → specs_in l.specs (l.first + i) ≡ part_of l.whole l.shards i
