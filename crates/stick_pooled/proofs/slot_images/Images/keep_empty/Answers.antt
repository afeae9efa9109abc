use Rattle.std.proofs.Common.{arith}
use Rattle.stick_pooled.proofs.ImageLemmas.{empty-kept}
use Rattle.stick_pooled.proofs.slot_images.Images.keep_empty.Goals as goal

pub returns-then-index-eq-NONE : goal.returns-then-index-eq-NONE
returns-then-index-eq-NONE c =
    let i = c.self.inside in
    let few = c.self.invariant.few in
    empty-kept i.images.items i.words.items i.width i.room i.places.items c.args.self.now c.self.view_is c.args.slot c.index.result.now c.requires c.index.ensures c.if-index-eq-NONE.true (omega (arith, few))
