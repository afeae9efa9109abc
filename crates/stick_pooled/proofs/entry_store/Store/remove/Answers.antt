use Rattle.std.proofs.Common.{IsSome, sym, subst, ◌∙◌}
use Rattle.stick_pooled.specs.Stock.{held_at}
use Rattle.stick_pooled.specs.Parts.{base_shown}
use Rattle.stick_pooled.proofs.StockLemmas.{some_entry}
use Rattle.stick_pooled.proofs.PartLemmas.{in_grid, indexed_some, handle_finds}
use Rattle.stick_pooled.proofs.CallLemmas.{queued_some}
use Rattle.stick_pooled.proofs.KeepLemmas.{album_inside, album_room, album_still, remove_shown_base, remove_kept_base}
use Rattle.stick_pooled.proofs.entry_store.Store.remove.Goals as goal

pub handle_of-handle-requires : goal.handle_of-handle-requires
handle_of-handle-requires c = indexed_some c.self.inside.entries c.self.inside.index c.self.inside.order c.self.inside.rows c.self.invariant.0 (base_shown c.self.inside.entries c.self.inside.index c.self.inside.rows c.self.inside.images) c.args.self.now c.self.view_is c.args.slot (queued_some c.self.inside.entries c.self.inside.index c.self.inside.order c.self.inside.rows c.self.invariant.0 (base_shown c.self.inside.entries c.self.inside.index c.self.inside.rows c.self.inside.images) c.self.invariant.1.0 c.args.self.now c.self.view_is c.args.slot c.requires)

pub keep_image-requires-clause-inside : goal.keep_image-requires-clause-inside
keep_image-requires-clause-inside c = album_inside c.self.inside.entries c.self.inside.index c.self.inside.order c.self.inside.rows c.self.inside.images c.self.invariant.0 c.self.invariant.1 c.args.self.now c.self.view_is c.args.slot (queued_some c.self.inside.entries c.self.inside.index c.self.inside.order c.self.inside.rows c.self.invariant.0 (base_shown c.self.inside.entries c.self.inside.index c.self.inside.rows c.self.inside.images) c.self.invariant.1.0 c.args.self.now c.self.view_is c.args.slot c.requires)

pub keep_image-requires-clause-rowed : goal.keep_image-requires-clause-rowed
keep_image-requires-clause-rowed c = in_grid c.self.inside.entries c.self.inside.index c.self.inside.order c.self.inside.rows c.self.invariant.0 (base_shown c.self.inside.entries c.self.inside.index c.self.inside.rows c.self.inside.images) c.args.self.now c.self.view_is c.args.slot (queued_some c.self.inside.entries c.self.inside.index c.self.inside.order c.self.inside.rows c.self.invariant.0 (base_shown c.self.inside.entries c.self.inside.index c.self.inside.rows c.self.inside.images) c.self.invariant.1.0 c.args.self.now c.self.view_is c.args.slot c.requires)

pub keep_image-requires-clause-indexed : goal.keep_image-requires-clause-indexed
keep_image-requires-clause-indexed c = indexed_some c.self.inside.entries c.self.inside.index c.self.inside.order c.self.inside.rows c.self.invariant.0 (base_shown c.self.inside.entries c.self.inside.index c.self.inside.rows c.self.inside.images) c.args.self.now c.self.view_is c.args.slot (queued_some c.self.inside.entries c.self.inside.index c.self.inside.order c.self.inside.rows c.self.invariant.0 (base_shown c.self.inside.entries c.self.inside.index c.self.inside.rows c.self.inside.images) c.self.invariant.1.0 c.args.self.now c.self.view_is c.args.slot c.requires)

pub keep_image-requires-clause-pooled : goal.keep_image-requires-clause-pooled
keep_image-requires-clause-pooled c handle named = subst IsSome (sym (handle_finds c.self.inside.entries c.self.inside.index c.self.inside.order c.self.inside.rows c.self.invariant.0 (base_shown c.self.inside.entries c.self.inside.index c.self.inside.rows c.self.inside.images) c.args.self.now c.self.view_is c.args.slot handle (queued_some c.self.inside.entries c.self.inside.index c.self.inside.order c.self.inside.rows c.self.invariant.0 (base_shown c.self.inside.entries c.self.inside.index c.self.inside.rows c.self.inside.images) c.self.invariant.1.0 c.args.self.now c.self.view_is c.args.slot c.requires) named)) (some_entry (held_at c.args.self.now c.args.slot) (queued_some c.self.inside.entries c.self.inside.index c.self.inside.order c.self.inside.rows c.self.invariant.0 (base_shown c.self.inside.entries c.self.inside.index c.self.inside.rows c.self.inside.images) c.self.invariant.1.0 c.args.self.now c.self.view_is c.args.slot c.requires))

pub keep_image-requires-clause-room : goal.keep_image-requires-clause-room
keep_image-requires-clause-room c none = album_room c.self.inside.entries c.self.inside.index c.self.inside.order c.self.inside.rows c.self.inside.images c.self.invariant.0 c.self.invariant.1 c.args.self.now c.self.view_is c.args.slot (queued_some c.self.inside.entries c.self.inside.index c.self.inside.order c.self.inside.rows c.self.invariant.0 (base_shown c.self.inside.entries c.self.inside.index c.self.inside.rows c.self.inside.images) c.self.invariant.1.0 c.args.self.now c.self.view_is c.args.slot c.requires) none

pub keep_image-requires-clause-wide : goal.keep_image-requires-clause-wide
keep_image-requires-clause-wide c = c.self.invariant.1.1.wide

pub keep_key-requires : goal.keep_key-requires
keep_key-requires c =
    let some = queued_some c.self.inside.entries c.self.inside.index c.self.inside.order c.self.inside.rows c.self.invariant.0 (base_shown c.self.inside.entries c.self.inside.index c.self.inside.rows c.self.inside.images) c.self.invariant.1.0 c.args.self.now c.self.view_is c.args.slot c.requires in
    album_still c.self.inside.entries c.self.inside.index c.self.inside.order c.self.inside.rows c.self.inside.images c.self.invariant.0 c.self.invariant.1 c.args.self.now c.self.view_is c.args.slot some c.keep_image.new.images c.keep_image.ensures c.handle_of-handle.result c.handle_of-handle.ensures

pub invariant_of-self : goal.invariant_of-self
invariant_of-self c =
    let some = queued_some c.self.inside.entries c.self.inside.index c.self.inside.order c.self.inside.rows c.self.invariant.0 (base_shown c.self.inside.entries c.self.inside.index c.self.inside.rows c.self.inside.images) c.self.invariant.1.0 c.args.self.now c.self.view_is c.args.slot c.requires in
    let finds = handle_finds c.self.inside.entries c.self.inside.index c.self.inside.order c.self.inside.rows c.self.invariant.0 (base_shown c.self.inside.entries c.self.inside.index c.self.inside.rows c.self.inside.images) c.args.self.now c.self.view_is c.args.slot c.handle_of-handle.result some c.handle_of-handle.ensures in
    let gone : IsSome c.remove-gone.result = subst IsSome (sym (c.remove-gone.ensures.value ∙ finds)) (some_entry (held_at c.args.self.now c.args.slot) some) in
    remove_kept_base c.self.inside.entries c.self.inside.index c.self.inside.order c.self.inside.rows c.self.inside.images c.self.invariant.0 c.self.invariant.1 c.args.self.now c.self.view_is c.args.slot some c.keep_image.new.images c.keep_image.ensures c.handle_of-handle.result c.handle_of-handle.ensures c.remove-gone.new.self c.remove_slot.new.self c.remove.new.self c.keep_key.new.self c.remove_slot.result
    (c.remove-gone.ensures.removed gone) c.remove_slot.ensures.removed c.remove.ensures c.keep_key.ensures c.remove_slot.ensures.key

pub returns : goal.returns
returns c =
    let some = queued_some c.self.inside.entries c.self.inside.index c.self.inside.order c.self.inside.rows c.self.invariant.0 (base_shown c.self.inside.entries c.self.inside.index c.self.inside.rows c.self.inside.images) c.self.invariant.1.0 c.args.self.now c.self.view_is c.args.slot c.requires in
    let finds = handle_finds c.self.inside.entries c.self.inside.index c.self.inside.order c.self.inside.rows c.self.invariant.0 (base_shown c.self.inside.entries c.self.inside.index c.self.inside.rows c.self.inside.images) c.args.self.now c.self.view_is c.args.slot c.handle_of-handle.result some c.handle_of-handle.ensures in
    let gone : IsSome c.remove-gone.result = subst IsSome (sym (c.remove-gone.ensures.value ∙ finds)) (some_entry (held_at c.args.self.now c.args.slot) some) in
    remove_shown_base c.self.inside.entries c.self.inside.index c.self.inside.order c.self.inside.rows c.self.inside.images c.self.invariant.0 c.self.invariant.1 c.args.self.now c.self.view_is c.args.slot some c.keep_image.new.images c.keep_image.ensures c.handle_of-handle.result c.handle_of-handle.ensures c.remove-gone.new.self c.remove_slot.new.self c.remove.new.self c.keep_key.new.self c.remove_slot.result
    (c.remove-gone.ensures.removed gone) c.remove_slot.ensures.removed c.remove.ensures c.keep_key.ensures c.remove_slot.ensures.key
