use Rattle.shard_book.proofs.SeatLemmas.{made_is_seat}
use Rattle.shard_book.proofs.seat.Seat.new.Goals as goal

pub invariant_of-result : goal.invariant_of-result
invariant_of-result c = made_is_seat c.args.number c.args.keeps c.new.result.items c.new.ensures.items
