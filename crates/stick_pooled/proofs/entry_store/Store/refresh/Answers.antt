use Rattle.std.proofs.Common.{IsSome, ap, subst, sym, ◌∙◌}
use Rattle.std.specs.List.{Contains}
use Rattle.expiry_order.specs.Queue.{Queue, queue}
use Rattle.stick_pooled.specs.Stock.{entered, held_at}
use Rattle.stick_pooled.proofs.StockLemmas.{not_without, some_entry}
use Rattle.stick_pooled.proofs.PartLemmas.{in_grid, indexed_some, handle_finds}
use Rattle.stick_pooled.proofs.CallLemmas.{leaves_inside, leaves_outside}
use Rattle.stick_pooled.proofs.KeepLemmas.{album_inside, album_room, refresh_shown_base, refresh_kept_base}
use Rattle.stick_pooled.specs.Parts.{base_shown}
use Rattle.stick_pooled.proofs.entry_store.Store.refresh.Goals as goal

pub handle_of-handle-requires : goal.handle_of-handle-requires
handle_of-handle-requires c = indexed_some c.self.inside.entries c.self.inside.index c.self.inside.order c.self.inside.rows c.self.invariant.0 (base_shown c.self.inside.entries c.self.inside.index c.self.inside.rows c.self.inside.images) c.args.self.now c.self.view_is c.args.slot c.requires

pub leave-requires-clause-inside : goal.leave-requires-clause-inside
leave-requires-clause-inside c alone = leaves_inside c.self.inside.entries c.self.inside.index c.self.inside.order c.self.inside.rows c.self.invariant.0 (base_shown c.self.inside.entries c.self.inside.index c.self.inside.rows c.self.inside.images) c.self.invariant.1.0 c.args.self.now c.self.view_is c.args.slot c.entry-before.result c.entry-before.ensures alone c.requires

pub leave-requires-clause-outside : goal.leave-requires-clause-outside
leave-requires-clause-outside c held = leaves_outside c.self.inside.entries c.self.inside.index c.self.inside.order c.self.inside.rows c.self.invariant.0 (base_shown c.self.inside.entries c.self.inside.index c.self.inside.rows c.self.inside.images) c.self.invariant.1.0 c.args.self.now c.self.view_is c.args.slot c.entry-before.result c.entry-before.ensures held

pub enter-requires-clause-outside : goal.enter-requires-clause-outside
enter-requires-clause-outside c = subst (λ (q : Queue). ¬ (Contains q.slots c.args.slot)) (sym c.leave.ensures) (not_without c.self.inside.order.slots c.args.slot)

pub keep_image-requires-clause-inside : goal.keep_image-requires-clause-inside
keep_image-requires-clause-inside c = album_inside c.self.inside.entries c.self.inside.index c.self.inside.order c.self.inside.rows c.self.inside.images c.self.invariant.0 c.self.invariant.1 c.args.self.now c.self.view_is c.args.slot c.requires

pub keep_image-requires-clause-rowed : goal.keep_image-requires-clause-rowed
keep_image-requires-clause-rowed c = in_grid c.self.inside.entries c.self.inside.index c.self.inside.order c.self.inside.rows c.self.invariant.0 (base_shown c.self.inside.entries c.self.inside.index c.self.inside.rows c.self.inside.images) c.args.self.now c.self.view_is c.args.slot c.requires

pub keep_image-requires-clause-indexed : goal.keep_image-requires-clause-indexed
keep_image-requires-clause-indexed c = indexed_some c.self.inside.entries c.self.inside.index c.self.inside.order c.self.inside.rows c.self.invariant.0 (base_shown c.self.inside.entries c.self.inside.index c.self.inside.rows c.self.inside.images) c.args.self.now c.self.view_is c.args.slot c.requires

pub keep_image-requires-clause-pooled : goal.keep_image-requires-clause-pooled
keep_image-requires-clause-pooled c handle named = subst IsSome (sym (handle_finds c.self.inside.entries c.self.inside.index c.self.inside.order c.self.inside.rows c.self.invariant.0 (base_shown c.self.inside.entries c.self.inside.index c.self.inside.rows c.self.inside.images) c.args.self.now c.self.view_is c.args.slot handle c.requires named)) (some_entry (held_at c.args.self.now c.args.slot) c.requires)

pub keep_image-requires-clause-room : goal.keep_image-requires-clause-room
keep_image-requires-clause-room c none = album_room c.self.inside.entries c.self.inside.index c.self.inside.order c.self.inside.rows c.self.inside.images c.self.invariant.0 c.self.invariant.1 c.args.self.now c.self.view_is c.args.slot c.requires none

pub keep_image-requires-clause-wide : goal.keep_image-requires-clause-wide
keep_image-requires-clause-wide c = c.self.invariant.1.1.wide

pub invariant_of-self : goal.invariant_of-self
invariant_of-self c =
    refresh_kept_base c.self.inside.entries c.self.inside.index c.self.inside.order c.self.inside.rows c.self.inside.images c.self.invariant.0 c.self.invariant.1 c.args.self.now c.self.view_is c.args.slot c.requires c.keep_image.new.images c.keep_image.ensures c.handle_of-handle.result c.handle_of-handle.ensures c.args.entry c.write.new.entries c.enter.new.order c.write.ensures
    (c.enter.ensures ∙ ap (λ (q : Queue). queue q.capacity (entered q.slots c.args.slot c.args.entry.refs)) c.leave.ensures)

pub returns : goal.returns
returns c =
    refresh_shown_base c.self.inside.entries c.self.inside.index c.self.inside.order c.self.inside.rows c.self.inside.images c.self.invariant.0 c.self.invariant.1 c.args.self.now c.self.view_is c.args.slot c.requires c.keep_image.new.images c.keep_image.ensures c.handle_of-handle.result c.handle_of-handle.ensures c.args.entry c.write.new.entries c.enter.new.order c.write.ensures
    (c.enter.ensures ∙ ap (λ (q : Queue). queue q.capacity (entered q.slots c.args.slot c.args.entry.refs)) c.leave.ensures)
