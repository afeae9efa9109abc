use Rattle.std.proofs.Common.{IsSome, sym, subst, ◌∙◌}
use Rattle.stick_pooled.specs.Stock.{held_at}
use Rattle.stick_pooled.proofs.StockLemmas.{some_entry}
use Rattle.stick_pooled.proofs.PartLemmas.{indexed_some, handle_finds}
use Rattle.stick_pooled.specs.Parts.{base_shown}
use Rattle.stick_pooled.proofs.entry_store.Store.entry.Goals as goal

pub handle_of-requires : goal.handle_of-requires
handle_of-requires c = indexed_some c.self.inside.entries c.self.inside.index c.self.inside.order c.self.inside.rows c.self.invariant.0 (base_shown c.self.inside.entries c.self.inside.index c.self.inside.rows c.self.inside.images) c.args.self.now c.self.view_is c.args.slot c.requires

pub value-requires : goal.value-requires
value-requires c =
    let finds = handle_finds c.self.inside.entries c.self.inside.index c.self.inside.order c.self.inside.rows c.self.invariant.0 (base_shown c.self.inside.entries c.self.inside.index c.self.inside.rows c.self.inside.images) c.args.self.now c.self.view_is c.args.slot c.handle_of.result c.requires c.handle_of.ensures in
    subst IsSome (sym finds) (some_entry (held_at c.args.self.now c.args.slot) c.requires)

pub returns : goal.returns
returns c = sym (handle_finds c.self.inside.entries c.self.inside.index c.self.inside.order c.self.inside.rows c.self.invariant.0 (base_shown c.self.inside.entries c.self.inside.index c.self.inside.rows c.self.inside.images) c.args.self.now c.self.view_is c.args.slot c.handle_of.result c.requires c.handle_of.ensures) ∙ c.value.ensures
