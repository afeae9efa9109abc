use Rattle.std.proofs.Common.{arith}
use Rattle.stick_model.specs.declared.events.Event.TheVariants.{List as ListRows}
use Rattle.shard_locks.proofs.ListingLemmas.{told_by_more}
use Rattle.shard_locks.proofs.shards.Shards.list_each.Goals as goal

pub loop-shard-preserved : goal.loop-shard-preserved
loop-shard-preserved g c = record {
  told = told_by_more c.loop-shard.shard c.args.seat.now.seat c.loop-shard.seat.seat c.list_shard.new.seat.seat (ListRows c.args.now c.args.filter.now) c.loop-shard.replies.items c.push_reserved.new.self.items c.in-Ok.reply c.loop-shard.invariant.told c.in-Ok.ensures.told c.push_reserved.ensures.items;
  used = omega (arith, c.push_reserved.ensures.len, c.loop-shard.invariant.used);
  room = omega (arith, c.push_reserved.ensures.capacity, c.loop-shard.invariant.room);
}
