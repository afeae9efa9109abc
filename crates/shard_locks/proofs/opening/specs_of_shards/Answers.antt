use Rattle.shard_locks.proofs.ShardsLemmas.{parts_more}
use Rattle.shard_locks.proofs.opening.specs_of_shards.Goals as goal

pub loop-shard-preserved : goal.loop-shard-preserved
loop-shard-preserved c =
    parts_more c.args.spec.now c.in_ok-spec_of_shard.field-0 c.args.shards c.loop-shard.shard c.loop-shard.specs.items c.push.new.self.items c.loop-shard.invariant c.in_ok-spec_of_shard.ensures c.in_ok-push.ensures.items
