-- What a table shows of a key, field by field: a datum, or an element of an array.
use Rattle.std.specs.Prelude.{ℕ, zero, suc, ◌+◌, ◌<◌, ◌≡◌, ◌==◌, ◌&&◌, nat_lt, List, [], ◌∷◌, ◌++◌, map, Bool, Option, Some, None, Any, if◌then◌else◌}
use Rattle.std.specs.Option.{option_or, option_and_then}
use Rattle.std.specs.List.{list_any}
use Rattle.stored_data.specs.Data.{place, is_array}
use Rattle.stored_data.specs.declared.datum.Datum.{Datum}
use Rattle.stored_data.specs.declared.datum.Datum.TheVariants.{Gpt0, Gpc0, Gpc1, Gpt, Gpc}
use Rattle.stored_data.specs.declared.field.Field.{Field}
use Rattle.stored_data.specs.declared.stored_set.Column.{Column}

-- the only field of a datum that is no array, and the first element of an array
abbrev pub plain : Datum → Field
plain datum = record { datum = datum; index = 0 }

-- whether two fields are one
unfoldable pub same_field : Field → Field → Bool
same_field a b = place a.datum == place b.datum && a.index == b.index

-- how many fields a column has: an array as many as its count says, all else one
abbrev pub size : Column → ℕ
size column = if is_array column.datum then column.count else 1

-- a field that a table stores, and the period of its column
pub record Element : Type 0 where
  pub field : Field
  pub period : ℕ

abbrev pub element : Column → ℕ → Element
element column index = record { field = record { datum = column.datum; index = index }; period = column.period }

-- so many elements of a column, from an index on
abbrev pub elements_from : Column → ℕ → ℕ → List Element
elements_from column index zero = []
elements_from column index (suc count) = element column index ∷ elements_from column (index + 1) count

-- the elements of a column
abbrev pub elements_of : Column → List Element
elements_of column = elements_from column 0 (size column)

-- the elements of columns, one column's behind another's
abbrev pub elements : List Column → List Element
elements [] = []
elements (column ∷ later) = elements_of column ++ elements later

-- the fields of columns, in the order of printing
abbrev pub fields_of : List Column → List Field
fields_of columns = map (λ element. element.field) (elements columns)

-- some column is that of the field's datum, and the field's index is below its size
abbrev pub Stores : List Column → Field → Type 0
Stores columns field = Any (λ column. (column.datum ≡ field.datum) × (field.index < size column)) columns

-- whether the field is stored, by places
abbrev pub is_field : List Column → Field → Bool
is_field columns field = list_any (λ column. place column.datum == place field.datum && nat_lt field.index (size column)) columns

-- the element of an array that acts and fetches of a counter or tag mean where the array is stored in its place
abbrev pub stand_in : Datum → Option Field
stand_in Gpt0 = Some (record { datum = Gpt; index = 0 })
stand_in Gpc0 = Some (record { datum = Gpc; index = 0 })
stand_in Gpc1 = Some (record { datum = Gpc; index = 1 })
stand_in _ = None

-- the field, where it is stored
abbrev pub if_stored : List Column → Field → Option Field
if_stored columns field = if is_field columns field then Some field else None

-- the stored field that acts and fetches of a datum mean: its own, or else the element that stands for it
abbrev pub field_for : List Column → Datum → Option Field
field_for columns datum = option_or (if_stored columns (plain datum)) (option_and_then (if_stored columns) (stand_in datum))
