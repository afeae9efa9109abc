use Rattle.std.proofs.Common.{arith, sym, ◌∙◌}
use Rattle.shard_record.specs.Parts.{MayAppend}
use Rattle.shard_record.specs.Views.{at}
use Rattle.shard_record.proofs.ViewMoves.{appends}
use Rattle.shard_record.proofs.record.Record.append_as.Goals as goal

pub load-requires : goal.load-requires
load-requires g c =
    let named = c.args.self.now.named in
    let may : MayAppend (at g.C.OfCall.called c.me.inside.seat.me.0) g.C.OfCall.event g.C.OfCall.reply =
    rw (c.me.view_is, ← c.requires.picked.0, ← c.requires.picked.1, ← c.requires.picked.2) c.requires.may in
    (c.me.invariant.0 ∙ sym named.0, omega (arith, named.1), appends g.C.OfCall.called c.me.inside.seat.id c.me.inside.seat.me.0 c.me.inside.seat.me.1 g.C.OfCall.event g.C.OfCall.reply _ may)
