use Rattle.std.proofs.Common.{◌≡◌, ℕ, rules, replicate}
use Rattle.stick_pooled.proofs.ImageLemmas.{new-album}
use Rattle.stick_pooled.proofs.slot_images.Images.new.Goals as goal

pub returns : goal.returns
returns c =
    let zeros : c.in_ok-from_elem.field-0.items ≡ replicate {A = ℕ} c.args.slots 0 = search rules in
    new-album c.args.slots c.args.width 0 c.in_ok-from_elem.field-0.items c.new.result.items c.new-2.result.items zeros c.new.ensures.items c.new-2.ensures.items
