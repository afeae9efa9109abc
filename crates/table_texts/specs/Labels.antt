-- What is made once for all rows of a listing.
use Rattle.std.specs.Prelude.{◌≡◌, ℕ, List, ◌++◌, codes}
use Rattle.stored_data.specs.declared.field.Field.{Field}
use Rattle.stored_data.specs.declared.stored_set.Column.{Column}
use Rattle.table_texts.specs.Text.{field_text}
use Rattle.table_texts.specs.declared.labels.Label.{Label}

-- NAME=, behind a space: what stands before a field's value
abbrev pub label_text : List Column → Field → List ℕ
label_text columns field = codes " " ++ field_text columns field ++ codes "="

-- a label says what stands before its field's value
abbrev pub IsLabel : List Column → Label → Type 0
IsLabel columns label = label.text.items ≡ label_text columns label.field
