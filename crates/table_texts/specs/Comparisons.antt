-- What several filters compare, once their data and their numbers are read.
use Rattle.std.specs.Prelude.{◌≡◌, ◌⊎◌, ℕ, Option, Some, None, Result, Ok, Err, List, [], ◌∷◌, unwrap_or}
use Rattle.base_lines.specs.Number.{number_of}
use Rattle.stored_data.specs.declared.field.Field.{Field}
use Rattle.stick_model.specs.declared.filters.Op.{Op}
use Rattle.table_texts.specs.FieldNames.{field_of}
use Rattle.table_texts.specs.Form.{datum_name, op_of}
use Rattle.table_texts.specs.declared.comparisons.Comparison.{Comparison}
use Rattle.table_texts.specs.declared.message.Message.{Message}
use Rattle.table_texts.specs.declared.message.Message.TheVariants.{InvalidValue, NotStored, OutOfMemory, UnknownCommand}

-- data.X OP V: first the operator, then the name, then the number
abbrev pub comparison_of : Option Op → Option Field → Option ℕ → Result Comparison Message
comparison_of None field bound = Err UnknownCommand
comparison_of (Some op) None bound = Err NotStored
comparison_of (Some op) (Some field) None = Err InvalidValue
comparison_of (Some op) (Some field) (Some bound) = Ok (record { field = field; op = op; bound = bound })

abbrev pub with_comparison : Result Comparison Message → Result (List Comparison) Message → Result (List Comparison) Message
with_comparison (Ok first) (Ok rest) = Ok (first ∷ rest)
with_comparison (Ok first) (Err message) = Err message
with_comparison (Err message) rest = Err message

-- filter by filter, up to the first that is wrong
abbrev pub comparisons_of : List (List ℕ) → Result (List Comparison) Message
comparisons_of [] = Ok []
comparisons_of (word ∷ []) = Ok []
comparisons_of (word ∷ op ∷ []) = Ok []
comparisons_of (word ∷ op ∷ value ∷ rest) =
    with_comparison (comparison_of (op_of op) (field_of (unwrap_or (datum_name word) [])) (number_of value)) (comparisons_of rest)

-- what reading the words of filters comes to: what they compare, or the message of what is wrong
abbrev pub ReadsComparisons : List (List ℕ) → Result (List Comparison) Message → Type 0
ReadsComparisons words (Ok comparisons) = comparisons_of words ≡ Ok comparisons
ReadsComparisons words (Err message) = (comparisons_of words ≡ Err message) ⊎ (message ≡ OutOfMemory)
