use Rattle.shard_housekeeping.specs.Keeping.{ByFirst, Rolls}
use Rattle.shard_housekeeping.proofs.rounds.roll_table.Given as goal

-- the first shards were asked
abbrev pub invariant-loop-shard : goal.invariant-loop-shard
invariant-loop-shard g l = ByFirst (λ shard. Rolls l.table.keep) l.shard l.fn.counts l.counts
