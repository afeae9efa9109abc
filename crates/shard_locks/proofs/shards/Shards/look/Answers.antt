use Rattle.shard_locks.proofs.ReplyLemmas.{told_shown}
use Rattle.shard_locks.proofs.shards.Shards.look.Goals as goal

pub shown_row-requires : goal.shown_row-requires
shown_row-requires g c =
    told_shown c.args.seat.now.seat c.call_any.new.seat.seat c.shard-shard.result c.args.now c.ticket.result c.in-Ok.reply c.in-Ok.ensures.told
