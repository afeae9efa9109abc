use Rattle.shard_housekeeping.specs.Keeping.{ByFirst, RollsPlace, none_counted}
use Rattle.shard_housekeeping.proofs.rounds.roll_long.Given as goal

-- the shards of the first tables were asked
abbrev pub invariant-loop-place : goal.invariant-loop-place
invariant-loop-place g l = ByFirst (RollsPlace l.tables) l.place none_counted l.counts
