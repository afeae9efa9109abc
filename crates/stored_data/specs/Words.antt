-- The data of a key in words, by the columns of its table: one word for a number or an element of an array, two for a
-- rate, none for the current connections.
use Rattle.std.specs.Prelude.{ℕ, ◌+◌, ◌==◌, ◌&&◌, nat_lt, Bool, List, [], ◌∷◌, slice_index, sum_by, if◌then◌else◌}
use Rattle.rate_window.specs.Words.{tally_in}
use Rattle.stored_data.specs.Data.{is_rate, place}
use Rattle.stored_data.specs.Fields.{Element, element, elements, size}
use Rattle.stored_data.specs.Acts.{is_kept, index_of, change, changed, changed_field, put_field}
use Rattle.stored_data.specs.declared.datum.Datum.{Datum}
use Rattle.stored_data.specs.declared.act.Change.{Change}
use Rattle.stored_data.specs.declared.act.Change.TheVariants.{Keep, Set}
use Rattle.stored_data.specs.declared.field.Field.{Field}
use Rattle.stored_data.specs.declared.stored_set.Column.{Column}
use Rattle.stored_data.specs.declared.values.Content.{Content}
use Rattle.stored_data.specs.declared.values.Content.TheVariants.{Number, Rate}
use Rattle.stored_data.specs.declared.values.StoredValue.{StoredValue}
use Rattle.stored_data.specs.declared.words.Edit.{Edit}
use Rattle.stored_data.specs.declared.words.Edit.TheVariants.{Do, Put}

-- whether it is a field of the column, and anything is kept of it
abbrev pub is_kept_in : Column → Field → Bool
is_kept_in column field = place column.datum == place field.datum && nat_lt field.index (size column) && is_kept (element column 0)

-- how many words an element takes
abbrev pub words_of : Element → ℕ
words_of element = if is_kept element then (if is_rate element.field.datum then 2 else 1) else 0

abbrev pub words_in : List Element → ℕ
words_in all = sum_by words_of all

-- how many words the columns take
abbrev pub width : List Column → ℕ
width columns = words_in (elements columns)

-- what is stored of an element whose words begin at this place
abbrev pub field_at : Element → List ℕ → ℕ → StoredValue
field_at element words at = record {
  field = element.field;
  content = if is_rate element.field.datum then Rate (tally_in element.period (slice_index words at) (slice_index words (at + 1))) else Number (slice_index words at);
}

-- how many words a field of a datum takes of which anything is kept
abbrev pub taken : Datum → ℕ
taken datum = if is_rate datum then 2 else 1

-- what is kept of a field of a datum whose words begin at this place
abbrev pub content_at : Datum → ℕ → List ℕ → ℕ → Content
content_at datum period words at = if is_rate datum then Rate (tally_in period (slice_index words at) (slice_index words (at + 1))) else Number (slice_index words at)

-- what is stored of elements whose words begin at this place, one element's behind another's
abbrev pub fields_from : List Element → List ℕ → ℕ → List StoredValue
fields_from [] words at = []
fields_from (element ∷ later) words at =
    if is_kept element then field_at element words at ∷ fields_from later words (at + words_of element) else fields_from later words (at + words_of element)

-- the data that words stand for
abbrev pub fields_in : List Column → List ℕ → List StoredValue
fields_in columns words = fields_from (elements columns) words 0

-- what is stored of a field, after what is done to it
abbrev pub edited : Edit → StoredValue → StoredValue
edited (Do now act) stored = changed_field now act stored
edited (Put field value) stored = put_field field value stored

-- the index of the field of a datum that it is done to
abbrev pub edited_index : Edit → Datum → ℕ
edited_index (Do now act) datum = index_of act datum
edited_index (Put field value) datum = field.index

-- what it does to the field of a datum that it is done to, and when: a put sets a number, at whatever moment
abbrev pub edited_change : Edit → Datum → Change
edited_change (Do now act) datum = change act datum
edited_change (Put field value) datum = if place datum == place field.datum then Set value else Keep

abbrev pub edited_moment : Edit → ℕ
edited_moment (Do now act) = now
edited_moment (Put field value) = 0

-- what is stored of a field, after a change at a moment
abbrev pub altered : ℕ → Change → StoredValue → StoredValue
altered now change stored = record { field = stored.field; content = changed now stored.field.datum change stored.content }
