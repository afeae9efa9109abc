use Rattle.std.proofs.Common.{rules, ◌≡◌, ◌∙◌, length, ℕ, ap}
use Rattle.std.proofs.lemmas.List.{with_items_is}
use Rattle.std.specs.Vec.{with_items}
use Rattle.stick_pooled.proofs.ImageLemmas.{new-album, same-size}
use Rattle.stick_pooled.proofs.slot_images.Images.renew.Goals as goal
use Rattle.stick_pooled.proofs.slot_images.Images.renew.Goals.{then-capacity-room+in_ok-images+in_ok-self-inside, else-capacity-room+else-capacity-all}

pub returns-clause-ok : goal.returns-clause-ok
returns-clause-ok c =
    let was = c.self.inside in
    let now = c.if-capacity-room.self-inside in
    let stays : (now.places.items ≡ was.places.items) × (now.width ≡ was.width) = elim c.if-capacity-room.branch [
      | then-capacity-room+in_ok-images+in_ok-self-inside w ↦ search rules
      | else-capacity-room+else-capacity-all w ↦ search rules
    ] in
    let size : ℕ = length c.as_mut_slice.result.now in
    let filled : (with_items now.places c.fill.new.self).items ≡ c.fill.new.self = with_items_is now.places c.fill.new.self (c.fill.ensures.len ∙ c.as_mut_slice.ensures.len) in
    new-album size now.width c.args.room (with_items now.places c.fill.new.self).items c.clear.new.self.items c.clear-2.new.self.items (filled ∙ c.fill.ensures.after (λ y h. h)) c.clear.ensures.items c.clear-2.ensures.items
    ∙ same-size was.images.items was.words.items was.width was.room was.places.items c.args.self.now c.self.view_is size now.width c.args.room (ap length (c.as_mut_slice.ensures.value ∙ stays.0)) stays.1
