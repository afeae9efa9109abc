-- The field that a command names behind data.: a datum, or an element of an array.
use Rattle.std.specs.Prelude.{ℕ, ◌-◌, ◌^◌, nat_lt, Option, Some, None, option_and_then, List, [], ◌∷◌, length, take, drop, codes, if◌then◌else◌}
use Rattle.std.specs.Str.{bytes_eq}
use Rattle.base_lines.specs.Number.{number_of}
use Rattle.base_lines.specs.Parts.{parts, is_byte}
use Rattle.stored_data.specs.Data.{is_array}
use Rattle.stored_data.specs.Fields.{plain}
use Rattle.stored_data.specs.Names.{datum_of}
use Rattle.stored_data.specs.declared.datum.Datum.{Datum}
use Rattle.stored_data.specs.declared.field.Field.{Field}

-- what stands before the bracket at a text's end
abbrev pub before_bracket : List ℕ → Option (List ℕ)
before_bracket text = if bytes_eq (drop (length text - 1) text) (codes "]") then Some (take (length text - 1) text) else None

-- a number of 32 bits
abbrev pub in_32_bits : ℕ → Option ℕ
in_32_bits n = if nat_lt n (2 ^ 32) then Some n else None

-- the index of I]
abbrev pub index_of : List ℕ → Option ℕ
index_of text = option_and_then in_32_bits (option_and_then number_of (before_bracket text))

-- a datum that is no array is a field
abbrev pub plain_field : Datum → Option Field
plain_field datum = if is_array datum then None else Some (plain datum)

-- an array's element is a field
abbrev pub element_at : ℕ → Datum → Option Field
element_at index datum = if is_array datum then Some (record { datum = datum; index = index }) else None

-- by the parts of a text at its opening brackets
abbrev pub field_of_parts : List (List ℕ) → Option Field
field_of_parts (name ∷ []) = option_and_then plain_field (datum_of name)
field_of_parts (name ∷ index ∷ []) = option_and_then (λ i. option_and_then (element_at i) (datum_of name)) (index_of index)
field_of_parts _ = None

-- NAME of a datum that is no array, or NAME[I] of an array
abbrev pub field_of : List ℕ → Option Field
field_of text = field_of_parts (parts (is_byte 91) text)
