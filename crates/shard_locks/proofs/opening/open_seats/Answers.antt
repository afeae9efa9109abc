use Rattle.shard_locks.proofs.SharedLemmas.{seated_more, seats_more}
use Rattle.shard_locks.proofs.opening.open_seats.Goals as goal

pub loop-number-preserved : goal.loop-number-preserved
loop-number-preserved g c = record {
  made = seats_more c.loop-number.number c.args.keeps c.loop-number.made.items c.push.new.self.items c.new-seat.result c.seat.result c.new.result c.loop-number.invariant.made c.new-seat.ensures c.new.ensures c.in_ok-push.ensures.items;
  dealt = seated_more c.args.dealer.now c.loop-number.dealer c.seat.new.self c.loop-number.number c.loop-number.invariant.dealt c.seat.ensures.left;
}
