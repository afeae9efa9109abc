use Rattle.std.proofs.Common.{◌≡◌, ◌<◌, ◌∙◌, ap, sym, subst, arith, rules, length, ℕ}
use Rattle.stick_pooled.specs.Album.{Album}
use Rattle.stick_pooled.proofs.ImageLemmas.{kept, sound-kept, inside-places}
use Rattle.stick_pooled.proofs.slot_images.Images.keep.Goals as goal

pub invariant_of-self : goal.invariant_of-self
invariant_of-self c =
    let i = c.self.inside in
    let numbered : c.len.result ≡ length c.push_reserved.new.self.items = search rules in
    let some : 0 < i.room = subst (λ (n : ℕ). 0 < n) (ap (λ (a : Album). a.room) (sym c.self.view_is)) c.requires.room in
    sound-kept i.places.items i.images.items i.words.items i.width i.room _ _ c.self.invariant c.args.slot c.len.result c.args.image c.args.words.now _ _ _ _
    (inside-places i.images.items i.words.items i.width i.room i.places.items c.args.self.now c.self.view_is c.args.slot c.requires.inside) some
    (c.requires.sized ∙ ap (λ (a : Album). a.width) (sym c.self.view_is)) c.push_reserved.ensures.items c.push_words.ensures.items numbered c.push_reserved.ensures.capacity c.push_words.ensures.room

pub returns : goal.returns
returns c =
    let i = c.self.inside in
    let numbered : c.len.result ≡ length c.push_reserved.new.self.items = search rules in
    let some : 0 < i.room = subst (λ (n : ℕ). 0 < n) (ap (λ (a : Album). a.room) (sym c.self.view_is)) c.requires.room in
    let few = c.self.invariant.few in
    kept i.images.items i.words.items i.width i.room i.places.items c.args.self.now c.self.view_is c.args.image c.args.words.now c.args.slot c.len.result c.push_reserved.new.self.items c.push_words.new.words.items
    c.push_reserved.ensures.items c.push_words.ensures.items numbered c.requires.sized c.self.invariant.named c.self.invariant.worded (omega (arith, few, some)) c.requires.first
