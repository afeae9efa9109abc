use Rattle.std.proofs.Common.{arith}
use Rattle.stick_pooled.proofs.ImageLemmas.{key-none, key-empty, key-given}
use Rattle.stick_pooled.proofs.slot_images.Images.keep_key.Goals as goal

pub returns-then-place-eq0 : goal.returns-then-place-eq0
returns-then-place-eq0 c =
    let i = c.self.inside in
    key-none i.images.items i.words.items i.width i.room i.places.items c.args.self.now c.self.view_is c.args.slot c.index.result.now c.args.key c.requires c.index.ensures c.if-place-eq0.true

pub returns-then-place-len : goal.returns-then-place-len
returns-then-place-len c =
    let i = c.self.inside in
    key-empty i.images.items i.words.items i.width i.room i.places.items c.args.self.now c.self.view_is c.args.slot c.index.result.now c.args.key c.requires c.index.ensures (omega (arith, c.len.ensures, c.if-place-len.true))

pub returns : goal.returns
returns c =
    let i = c.self.inside in
    key-given i.images.items i.words.items i.width i.room i.places.items c.args.self.now c.self.view_is c.args.slot c.index.result.now c.index_mut.result.now c.give_key.new.image c.args.key c.requires c.index.ensures c.if-place-eq0.false
    (omega (arith, c.len.ensures, c.if-place-len.false)) c.self.invariant.apart c.index_mut.ensures.value c.give_key.ensures
