use Rattle.std.proofs.Common.{ℕ, List, Some, ◌≡◌, ◌∙◌}
use Rattle.std.specs.Prelude.{IfOk}
use Rattle.std.specs.declared.result.Result.{Result}
use Rattle.std.specs.declared.result.Result.TheVariants.{Ok, Err}
use Rattle.stored_data.specs.declared.values.StoredValue.{StoredValue}
use Rattle.stick_pooled.specs.Grid.{row_at}
use Rattle.stick_pooled.specs.Stock.{Held, Stock, held_at}
use Rattle.stick_pooled.proofs.PartLemmas.{in_grid, values_are}
use Rattle.stick_pooled.specs.Parts.{base_shown}
use Rattle.stick_pooled.proofs.entry_store.Store.values.Goals as goal

if_ok : {E : Type 0} (r : Result (List StoredValue) E) (row : List StoredValue) (s : Stock) (slot : ℕ) → IfOk r (λ values. values ≡ row) → ((held : Held) → held_at s slot ≡ Some held → row ≡ held.values)
    → IfOk r (λ values. (held : Held) → held_at s slot ≡ Some held → values ≡ held.values)
if_ok (Ok values) row s slot is more = λ held there. is ∙ more held there
if_ok (Err e) row s slot is more = tt

pub values-requires : goal.values-requires
values-requires c = in_grid c.self.inside.entries c.self.inside.index c.self.inside.order c.self.inside.rows c.self.invariant.0 (base_shown c.self.inside.entries c.self.inside.index c.self.inside.rows c.self.inside.images) c.args.self.now c.self.view_is c.args.slot c.requires

pub returns : goal.returns
returns c = if_ok c.values.result (row_at c.self.inside.rows c.args.slot) c.args.self.now c.args.slot c.values.ensures (values_are c.self.inside.entries c.self.inside.index c.self.inside.order c.self.inside.rows c.self.invariant.0 (base_shown c.self.inside.entries c.self.inside.index c.self.inside.rows c.self.inside.images) c.args.self.now c.self.view_is c.args.slot)
