use Rattle.shard_housekeeping.specs.Keeping.{KeepsShard}
use Rattle.shard_housekeeping.proofs.KeepingLemmas.{by_first_more}
use Rattle.shard_housekeeping.proofs.rounds.keep_table.Goals as goal

pub loop-shard-preserved : goal.loop-shard-preserved
loop-shard-preserved g c =
    let state = g.C.Clock.state in
    by_first_more (KeepsShard g.C.Clock.shows c.args.table.now) c.loop-shard.shard (record { seat = c.args.seat.now; clock = state c.args.clock.now; counts = c.args.counts.now }) (record { seat = c.loop-shard.seat; clock = state c.loop-shard.clock; counts = c.loop-shard.counts })
    (record { seat = c.keep_shard.new.seat; clock = state c.keep_shard.new.clock; counts = c.keep_shard.new.counts }) c.loop-shard.invariant c.keep_shard.ensures
