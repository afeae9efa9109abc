use Rattle.std.proofs.Common.{List, ap, ◌∙◌}
use Rattle.stored_data.specs.Acts.{value_at}
use Rattle.stored_data.specs.declared.values.StoredValue.{StoredValue}
use Rattle.stick_pooled.proofs.PartLemmas.{in_grid, values_are}
use Rattle.stick_pooled.specs.Parts.{base_shown}
use Rattle.stick_pooled.proofs.entry_store.Store.get.Goals as goal

pub get-requires : goal.get-requires
get-requires c = in_grid c.self.inside.entries c.self.inside.index c.self.inside.order c.self.inside.rows c.self.invariant.0 (base_shown c.self.inside.entries c.self.inside.index c.self.inside.rows c.self.inside.images) c.args.self.now c.self.view_is c.args.slot c.requires

pub returns : goal.returns
returns c held there = c.get.ensures ∙ ap (λ (fields : List StoredValue). value_at fields c.args.field c.args.now) (values_are c.self.inside.entries c.self.inside.index c.self.inside.order c.self.inside.rows c.self.invariant.0 (base_shown c.self.inside.entries c.self.inside.index c.self.inside.rows c.self.inside.images) c.args.self.now c.self.view_is c.args.slot held there)
