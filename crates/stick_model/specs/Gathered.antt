-- Rows as a table gathers them, in any order, and their order as a listing shows them.
use Rattle.std.specs.Prelude.{◌≡◌, ℕ, ◌≤◌, Bool, if◌then◌else◌, List, [], ◌∷◌, ◌++◌, length, map, take, drop, unwrap_or}
use Rattle.std.specs.Ordering.{is_lt}
use Rattle.stored_data.specs.Acts.{value_at}
use Rattle.stored_data.specs.Fields.{fields_of}
use Rattle.stored_data.specs.Words.{fields_in, width}
use Rattle.stored_data.specs.declared.field.Field.{Field}
use Rattle.stored_data.specs.declared.stored_set.Column.{Column}
use Rattle.stored_data.specs.declared.values.StoredValue.{StoredValue}
use Rattle.stick_model.specs.Key.{Key, key_cmp}
use Rattle.stick_model.specs.declared.rows.Cell.{Cell}
use Rattle.stick_model.specs.declared.rows.Row.{Row}
use Rattle.stick_model.specs.declared.gathering.Head.{Head}

-- ---- the order of the keys
module _ {X : Type 0} (less : X → X → Bool) where
  -- put before the first that isn't less
  abbrev pub inserted : X → List X → List X
  inserted x [] = x ∷ []
  inserted x (y ∷ ys) = if less y x then y ∷ inserted x ys else x ∷ y ∷ ys

  -- in order, and equal ones as they stood
  abbrev pub ordered : List X → List X
  ordered [] = []
  ordered (x ∷ xs) = inserted x (ordered xs)

abbrev pub has_lower_key : Row → Row → Bool
has_lower_key a b = is_lt (key_cmp a.key b.key)

-- rows in the order of their keys
abbrev pub in_key_order : List Row → List Row
in_key_order rows = ordered has_lower_key rows

-- ---- what is gathered
-- what a row shows of a field of these data, of an entry that has so many references
abbrev pub cell_of : ℕ → ℕ → List StoredValue → Field → Cell
cell_of clock refs values field = record { field = field; value = unwrap_or (value_at values field clock) refs }

-- the row of a key with so many references, so many ms left, and these data
abbrev pub row_with : List Column → ℕ → Key → ℕ → ℕ → List StoredValue → Row
row_with columns clock key refs left values = record { key = key; refs = refs; left = left; cells = map (cell_of clock refs values) (fields_of columns) }

-- the columns, the moment whose values are shown, and the rows so far, in the order in which they came
pub record Gathered : Type 0 where
  pub columns : List Column
  pub clock : ℕ
  pub rows : List Row

abbrev pub gathered : List Column → ℕ → List Row → Gathered
gathered columns clock rows = record { columns = columns; clock = clock; rows = rows }

abbrev pub with_row : Gathered → Row → Gathered
with_row g row = gathered g.columns g.clock (g.rows ++ row ∷ [])

-- ---- how it lies in memory
-- the rows of these heads, with the bytes of their keys one behind another, and so the words of their data
abbrev pub rows_in : List Column → ℕ → List Head → List ℕ → List ℕ → List Row
rows_in columns clock [] bytes words = []
rows_in columns clock (head ∷ heads) bytes words =
    row_with columns clock (take head.size bytes) head.refs head.left (fields_in columns (take (width columns) words)) ∷ rows_in columns clock heads (drop head.size bytes) (drop (width columns) words)

-- the bytes and the words are those of these heads, and no more
abbrev pub AreCut : ℕ → List Head → List ℕ → List ℕ → Type 0
AreCut wide [] bytes words = (bytes ≡ []) × (words ≡ [])
AreCut wide (head ∷ heads) bytes words = (head.size ≤ length bytes) × (wide ≤ length words) × AreCut wide heads (drop head.size bytes) (drop wide words)
