-- Where a reference that comes goes.
use Rattle.std.specs.Prelude.{◌≡◌, Option, Some, None}
use Rattle.rule_eval.specs.declared.wants.Asked.{Asked}
use Rattle.rule_eval.specs.declared.wants.Asked.TheVariants.{Reference}
use Rattle.admit_core.specs.Held.{held_at, held_with}
use Rattle.admit_core.specs.declared.held.Held.{Held}

abbrev pub received : {R : Type 0} → Held R → Asked → Option R → Held R
received held (Reference slot table) (Some reference) = held_with held slot (Some (table, reference))
received held asked reference = held

-- a reference comes only where one was asked for, and has a free slot then
abbrev pub HasPlace : {R : Type 0} → Held R → Asked → Option R → Type 0
HasPlace held asked None = Unit {0}
HasPlace held (Reference slot table) (Some reference) = held_at held slot ≡ None
HasPlace held asked (Some reference) = ⊥
