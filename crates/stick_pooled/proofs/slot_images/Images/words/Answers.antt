use Rattle.std.proofs.Common.{◌∙◌, subst, sym, ℕ, List, ◌≤◌, ◌+◌, ◌*◌, ◌-◌, length}
use Rattle.stick_pooled.proofs.ImageLemmas.{named-within, read-place}
use Rattle.stick_pooled.proofs.slot_images.Images.words.Goals as goal

pub row_in-requires : goal.row_in-requires
row_in-requires c =
    let i = c.self.inside in
    subst (λ (ws : List ℕ). (c.index.result.now - 1) * i.width + i.width ≤ length ws) (sym c.as_slice.ensures.value)
    (named-within i.images.items i.words.items i.width c.index.result.now c.requires.picture c.self.invariant.worded
    (read-place i.images.items i.words.items i.width i.room i.places.items c.args.self.now c.self.view_is c.args.slot c.index.result.now c.requires.inside c.index.ensures ∙ c.requires.there))
