use Rattle.shard_housekeeping.specs.Keeping.{ByFirst, KeepsShard}
use Rattle.shard_housekeeping.proofs.rounds.keep_table.Given as goal

-- the first shards were kept
abbrev pub invariant-loop-shard : goal.invariant-loop-shard
invariant-loop-shard g l = ByFirst (KeepsShard g.C.Clock.shows l.table) l.shard (record { seat = l.fn.seat; clock = g.C.Clock.state l.fn.clock; counts = l.fn.counts }) (record { seat = l.seat; clock = g.C.Clock.state l.clock; counts = l.counts })
