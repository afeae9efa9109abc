use Rattle.shard_housekeeping.specs.Keeping.{Rolls}
use Rattle.shard_housekeeping.proofs.KeepingLemmas.{by_first_more}
use Rattle.shard_housekeeping.proofs.rounds.roll_table.Goals as goal

pub loop-shard-preserved : goal.loop-shard-preserved
loop-shard-preserved g c = by_first_more (λ shard. Rolls c.args.table.now.keep) c.loop-shard.shard c.args.counts.now c.loop-shard.counts c.roll.new.counts c.loop-shard.invariant c.roll.ensures
