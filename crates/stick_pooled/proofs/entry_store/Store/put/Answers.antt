use Rattle.std.proofs.Common.{IsSome, sym, subst}
use Rattle.stick_pooled.specs.Stock.{held_at}
use Rattle.stick_pooled.specs.Parts.{base_shown}
use Rattle.stick_pooled.proofs.StockLemmas.{some_entry}
use Rattle.stick_pooled.proofs.PartLemmas.{in_grid, indexed_some, handle_finds}
use Rattle.stored_data.specs.Acts.{with_value}
use Rattle.stick_pooled.proofs.KeepLemmas.{album_inside, album_room, change_shown_base, change_kept_base}
use Rattle.stick_pooled.proofs.entry_store.Store.put.Goals as goal

pub keep_image-requires-clause-inside : goal.keep_image-requires-clause-inside
keep_image-requires-clause-inside c = album_inside c.self.inside.entries c.self.inside.index c.self.inside.order c.self.inside.rows c.self.inside.images c.self.invariant.0 c.self.invariant.1 c.args.self.now c.self.view_is c.args.slot c.requires

pub keep_image-requires-clause-rowed : goal.keep_image-requires-clause-rowed
keep_image-requires-clause-rowed c = in_grid c.self.inside.entries c.self.inside.index c.self.inside.order c.self.inside.rows c.self.invariant.0 (base_shown c.self.inside.entries c.self.inside.index c.self.inside.rows c.self.inside.images) c.args.self.now c.self.view_is c.args.slot c.requires

pub keep_image-requires-clause-indexed : goal.keep_image-requires-clause-indexed
keep_image-requires-clause-indexed c = indexed_some c.self.inside.entries c.self.inside.index c.self.inside.order c.self.inside.rows c.self.invariant.0 (base_shown c.self.inside.entries c.self.inside.index c.self.inside.rows c.self.inside.images) c.args.self.now c.self.view_is c.args.slot c.requires

pub keep_image-requires-clause-pooled : goal.keep_image-requires-clause-pooled
keep_image-requires-clause-pooled c handle named = subst IsSome (sym (handle_finds c.self.inside.entries c.self.inside.index c.self.inside.order c.self.inside.rows c.self.invariant.0 (base_shown c.self.inside.entries c.self.inside.index c.self.inside.rows c.self.inside.images) c.args.self.now c.self.view_is c.args.slot handle c.requires named)) (some_entry (held_at c.args.self.now c.args.slot) c.requires)

pub keep_image-requires-clause-room : goal.keep_image-requires-clause-room
keep_image-requires-clause-room c none = album_room c.self.inside.entries c.self.inside.index c.self.inside.order c.self.inside.rows c.self.inside.images c.self.invariant.0 c.self.invariant.1 c.args.self.now c.self.view_is c.args.slot c.requires none

pub keep_image-requires-clause-wide : goal.keep_image-requires-clause-wide
keep_image-requires-clause-wide c = c.self.invariant.1.1.wide

pub put-requires : goal.put-requires
put-requires c = in_grid c.self.inside.entries c.self.inside.index c.self.inside.order c.self.inside.rows c.self.invariant.0 (base_shown c.self.inside.entries c.self.inside.index c.self.inside.rows c.self.inside.images) c.args.self.now c.self.view_is c.args.slot c.requires

pub invariant_of-self : goal.invariant_of-self
invariant_of-self c = change_kept_base c.self.inside.entries c.self.inside.index c.self.inside.order c.self.inside.rows c.self.inside.images c.self.invariant.0 c.self.invariant.1 c.args.self.now c.self.view_is c.args.slot c.requires c.keep_image.new.images c.keep_image.ensures (λ values. with_value values c.args.field c.args.value) c.put.new.self c.put.ensures

pub returns : goal.returns
returns c = change_shown_base c.self.inside.entries c.self.inside.index c.self.inside.order c.self.inside.rows c.self.inside.images c.self.invariant.0 c.self.invariant.1 c.args.self.now c.self.view_is c.args.slot c.requires c.keep_image.new.images c.keep_image.ensures (λ values. with_value values c.args.field c.args.value) c.put.new.self c.put.ensures
