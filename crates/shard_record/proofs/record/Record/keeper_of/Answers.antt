use Rattle.std.proofs.Common.{arith, sym, ◌∙◌}
use Rattle.shard_record.proofs.ViewMoves.{cuts, cuts_keeper}
use Rattle.shard_record.proofs.record.Record.keeper_of.Goals as goal

pub split_seat-requires : goal.split_seat-requires
split_seat-requires g c =
    let named = c.args.self.now.named in
    let v = c.me.inside.seat.me.0 in
    (c.me.invariant.0 ∙ sym named.0, omega (arith, named.1), cuts c.me.inside.seat.id v _ _ (cuts_keeper g.B.OfBook.book v))
