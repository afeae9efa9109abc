-- What a contract sees of `Rows`.
use Rattle.std.specs.Prelude.{ℕ, List, [], replicate, slice_index_or, slice_set}
use Rattle.stored_data.specs.Acts.{zero_of}
use Rattle.stored_data.specs.declared.stored_set.Column.{Column}
use Rattle.stored_data.specs.declared.values.StoredValue.{StoredValue}

-- the columns, and the data of each row
pub record Grid : Type 0 where
  pub columns : List Column
  pub rows : List (List StoredValue)

abbrev pub grid : List Column → List (List StoredValue) → Grid
grid columns rows = record { columns = columns; rows = rows }

-- so many rows with nothing counted
abbrev pub zero_rows : ℕ → List Column → Grid
zero_rows count columns = grid columns (replicate count (zero_of columns))

-- the data of a row
abbrev pub row_at : Grid → ℕ → List StoredValue
row_at g at = slice_index_or g.rows at []

-- the rows, where one has these data
abbrev pub with_row : Grid → ℕ → List StoredValue → Grid
with_row g at fields = grid g.columns (slice_set g.rows at fields)
