-- What is seen of an entry by itself: its references are those that it counts.
use Rattle.std.specs.Prelude.{◌≡◌, ℕ, nat_lt, Bool, true, false, not, ◌&&◌, ◌||◌, if◌then◌else◌, List, [], ◌∷◌, map, Option, Some, None, unwrap_or}
use Rattle.std.specs.Option.{option_and_then, option_map}
use Rattle.stored_data.specs.Acts.{value_at}
use Rattle.stored_data.specs.Fields.{fields_of}
use Rattle.stored_data.specs.declared.stored_set.Column.{Column}
use Rattle.stored_data.specs.declared.values.StoredValue.{StoredValue}
use Rattle.stick_pooled.specs.Stock.{Held, Stock, held_at}
use Rattle.stick_model.specs.Filters.{compares}
use Rattle.stick_model.specs.Gathered.{Gathered, cell_of, with_row}
use Rattle.stick_pooled.specs.Slots.{entries_of}
use Rattle.stick_model.specs.Key.{Key, key_cmp, same_key}
use Rattle.stick_model.specs.State.{outlives, row_of}
use Rattle.stick_model.specs.declared.rows.Cell.{Cell}
use Rattle.stick_model.specs.declared.rows.Row.{Row}
use Rattle.stick_model.specs.declared.filters.Filter.{Filter}
use Rattle.stick_model.specs.declared.filters.Filter.TheVariants.{Everything, Nothing, Key as OneKey, Compare}
use Rattle.stick_pooled.specs.Shown.{record_of}

-- the cells of a row, of an entry that has so many references
abbrev pub cells_of : List Column → ℕ → ℕ → List StoredValue → List Cell
cells_of columns clock refs values = map (cell_of clock refs values) (fields_of columns)

-- whether it stays when the clock has come to a moment
abbrev pub is_kept : ℕ → Option ℕ → Held → Bool
is_kept clock expire held = nat_lt 0 held.entry.refs || outlives clock (record_of expire held)

-- the slot has a key's entry, which stays
pub record IsLive (s : Stock) (expire : Option ℕ) (clock : ℕ) (key : Key) (slot : ℕ) : Type 0 where
  pub held : Held
  pub there : held_at s slot ≡ Some held
  pub keyed : held.key ≡ key
  pub kept : is_kept clock expire held ≡ true

-- a key has no entry that stays
abbrev pub IsGone : Stock → Option ℕ → ℕ → Key → Type 0
IsGone s expire clock key = (slot : ℕ) (held : Held) → held_at s slot ≡ Some held → held.key ≡ key → is_kept clock expire held ≡ false

-- whether a filter means it
abbrev pub is_meant : ℕ → Filter → Held → Bool
is_meant clock Everything held = true
is_meant clock Nothing held = false
is_meant clock (OneKey key) held = same_key key held.key
is_meant clock (Compare field op bound) held = compares op (unwrap_or (value_at held.values field clock) held.entry.refs) bound

-- whether a filter means it, and a reference holds it or none does
abbrev pub is_meant_as : ℕ → Filter → Bool → Held → Bool
is_meant_as clock choice tracked held = if nat_lt 0 held.entry.refs then tracked && is_meant clock choice held else not tracked && is_meant clock choice held

-- what a listing shows of it, beside its key, where it stays and the filter means it
abbrev pub listed_of : List Column → Option ℕ → ℕ → Filter → Held → Option (Key × Row)
listed_of columns expire clock choice held =
    if is_kept clock expire held && is_meant clock choice held then Some (held.key, row_of columns clock held.entry.refs held.key (record_of expire held)) else None

-- the row that a listing shows of a slot, if it shows one
abbrev pub listed_row : List Column → Option ℕ → ℕ → Filter → Option Held → Option Row
listed_row columns expire clock choice slot = option_map (λ (entry : Key × Row). entry.1) (option_and_then (listed_of columns expire clock choice) slot)

-- what slots have, in the order of the slots
abbrev pub filled : {X : Type 0} → List (Option X) → List X
filled [] = []
filled (None ∷ slots) = filled slots
filled (Some x ∷ slots) = x ∷ filled slots

-- what is gathered, with the row of one slot more, if it shows one
abbrev pub with_listed : Gathered → Option Row → Gathered
with_listed g None = g
with_listed g (Some row) = with_row g row

-- the rows that a listing shows of these slots, in the order of the slots
abbrev pub listed_in : List Column → Option ℕ → ℕ → Filter → List (Option Held) → List Row
listed_in columns expire clock choice slots = filled (map (listed_row columns expire clock choice) slots)

-- what a listing shows of these slots, in the order of the keys
abbrev pub listed_entries : List Column → Option ℕ → ℕ → Filter → List (Option Held) → List (Key × Row)
listed_entries columns expire clock choice slots = entries_of key_cmp (map (option_and_then (listed_of columns expire clock choice)) slots)
