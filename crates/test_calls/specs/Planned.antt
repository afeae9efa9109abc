-- With what the books of a test's record are to be made.
use Rattle.std.specs.Prelude.{◌≡◌, ℕ, List, get_or}
use Rattle.atomic_table.specs.Seated.{TableId}
use Rattle.stick_model.specs.declared.specification.Spec.{Spec}
use Rattle.shard_record.specs.Views.{no_spec}
use Rattle.test_calls.specs.declared.records.Planned.{Planned}

-- each book with what was planned for it
abbrev pub specs_in : List Spec → ℕ → Spec
specs_in specs book = get_or specs book no_spec

-- a name says so of the record
abbrev pub IsNamed : Planned → TableId → ℕ → (ℕ → Spec) → Type 0
IsNamed planned record_id books specs = (planned.opened.first.table_id ≡ record_id) × (planned.opened.books ≡ books) × (specs ≡ specs_in planned.specs.items)
