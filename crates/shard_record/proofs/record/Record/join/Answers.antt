use Rattle.std.proofs.Common.{arith, sym, ◌∙◌}
use Rattle.shard_record.proofs.ViewMoves.{compares, joins}
use Rattle.shard_record.proofs.record.Record.join.Goals as goal

pub join_seat-requires : goal.join_seat-requires
join_seat-requires g c =
    let named = c.args.self.now.named in
    (c.me.invariant.0 ∙ sym named.0, c.other.invariant.0 ∙ sym named.0, c.other.invariant.1, omega (arith, named.1), joins c.me.inside.seat.id c.me.inside.seat.me.0 c.other.inside.seat.id c.other.inside.seat.me.0)

pub load-requires : goal.load-requires
load-requires g c =
    let named = c.args.self.now.named in
    (c.join_seat.ensures.0 ∙ c.me.invariant.0 ∙ sym named.0, omega (arith, named.1), compares c.join_seat.new.seat.id c.join_seat.new.seat.me.0 c.join_seat.new.seat.me.1 _)
