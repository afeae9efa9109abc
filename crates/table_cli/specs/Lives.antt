-- When an entry was refreshed that has so much of its life left.
use Rattle.std.specs.Prelude.{ℕ, ◌-◌, max, Option, List, map, fold, unwrap_or}
use Rattle.std.specs.Option.{option_map_or}
use Rattle.stick_model.specs.declared.specification.Spec.{Spec}
use Rattle.shard_book.specs.NamedTables.{NamedState}

-- how long ago an entry was refreshed that has so many ms left; no moment tells in a table without expire
abbrev pub age : Option ℕ → ℕ → ℕ
age expire left = option_map_or (λ life. life - left) expire 0

-- the longest life that tables give, 0 where none has one
abbrev pub life_of : Spec → ℕ
life_of spec = unwrap_or spec.expire 0

abbrev pub longest_life : List Spec → ℕ
longest_life specs = fold (λ longest spec. max longest (life_of spec)) 0 specs

-- the moment at which tables go on once they are loaded: any entry that still lives was refreshed at a moment since 0
abbrev pub goes_on_at : {S : Type 0} → List (NamedState S) → ℕ
goes_on_at {S} tables = longest_life (map (λ (table : NamedState S). table.spec) tables)
