-- What is read of a row: what the table shows of the field that is meant.
use Rattle.std.specs.Prelude.{◌≡◌, ℕ, true, List, Some, unwrap_or}
use Rattle.stored_data.specs.Acts.{value_at}
use Rattle.stored_data.specs.Fields.{field_for, is_field}
use Rattle.stored_data.specs.declared.datum.Datum.{Datum}
use Rattle.stored_data.specs.declared.field.Field.{Field}
use Rattle.stored_data.specs.declared.stored_set.Column.{Column}
use Rattle.stick_model.specs.Key.{Key}
use Rattle.stick_model.specs.State.{row_of}
use Rattle.stick_model.specs.declared.rows.Record.{Record}
use Rattle.rule_model.specs.declared.criteria.Fetch.TheVariants as fetches
use Rattle.rule_eval.specs.Readings.{read}

-- a fetch of a datum reads its own field, or, where an array is stored in its place, the element that stands for it
abbrev pub DatumLaw : Type 0
DatumLaw = (columns : List Column) (clock count : ℕ) (key : Key) (found : Record) (datum : Datum) (field : Field) →
    field_for columns datum ≡ Some field → read (fetches.Datum datum) (row_of columns clock count key found) ≡ unwrap_or (value_at found.values field clock) count

-- a fetch of an element reads that element
abbrev pub ElementLaw : Type 0
ElementLaw = (columns : List Column) (clock count : ℕ) (key : Key) (found : Record) (field : Field) →
    is_field columns field ≡ true → read (fetches.Element field) (row_of columns clock count key found) ≡ unwrap_or (value_at found.values field clock) count
