use Rattle.shard_locks.proofs.ReplyLemmas.{told_counted}
use Rattle.shard_locks.proofs.shards.Shards.count.Goals as goal

pub counted_value-requires : goal.counted_value-requires
counted_value-requires g c =
    told_counted c.args.seat.now.seat c.call_any.new.seat.seat c.shard-shard.result c.args.now c.ticket.result c.args.act c.in-Ok.reply c.in-Ok.ensures.told
