-- A value with all that HAProxy's typed and JSON outputs say of it (HAProxy Management Guide 2.6, 9.2; RFC 8259).
use Rattle.std.specs.Prelude.{ℕ, nat_lt, ◌+◌, ◌-◌, ◌/◌, ◌%◌, Bool, ◌==◌, ◌||◌, List, [], ◌∷◌, ◌++◌, codes, decimal, if◌then◌else◌}
use Rattle.std.specs.List.{flat_map}
use Rattle.tcp_stats.specs.JsonParts.{part_text}
use Rattle.tcp_stats.specs.Tags.{letters, json_tags}
use Rattle.tcp_stats.specs.Values.{Shown, Nothing, Number, Word, Name, Span, plain_text, seen_value, span_text}
use Rattle.tcp_stats.specs.declared.json_part.JsonPart.TheVariants as parts
use Rattle.tcp_stats.specs.declared.tags.Tags.{Tags}
use Rattle.tcp_stats.specs.declared.tags.Nature.{Nature}
use Rattle.tcp_stats.specs.declared.tags.Nature.TheVariants as natures
use Rattle.tcp_stats.specs.declared.typed.Field.{Field as CodeField}

-- a value, its place among HAProxy's, its name and its tags
pub record Field : Type 0 where
  pub place : ℕ
  pub name : List ℕ
  pub tags : Tags
  pub value : Shown

-- a field of the code, without where its letters lie in memory
abbrev pub seen_field : CodeField → Field
seen_field field = record { place = field.place; name = field.name.now; tags = field.tags; value = seen_value field.value }

-- ---- texts of JSON

abbrev pub hex_digit : ℕ → ℕ
hex_digit number = if nat_lt number 10 then 48 + number else 97 + (number - 10)

-- a quote and a backslash stand behind a backslash, and control characters are numbers in four hexadecimal digits
abbrev pub json_byte : ℕ → List ℕ
json_byte byte =
    if (byte == 34) || (byte == 92) then 92 ∷ byte ∷ []
    else (if nat_lt byte 32 then codes "\\u00" ++ (48 + byte / 16) ∷ hex_digit (byte % 16) ∷ []
    else byte ∷ [])

abbrev pub quoted : List ℕ → List ℕ
quoted text = codes "\"" ++ text ++ codes "\""

unfoldable pub json_string : List ℕ → List ℕ
json_string text = quoted (flat_map json_byte text)

-- a number as it is, all else as a text
abbrev pub json_value : Shown → List ℕ
json_value Nothing = quoted []
json_value (Number number) = decimal number
json_value (Word word) = json_string word
json_value (Name name) = json_string name
json_value (Span seconds) = quoted (span_text seconds)

-- ---- what is said of a value

-- what only goes up has 64 bits, and other numbers 32
abbrev pub number_type : Nature → List ℕ
number_type natures.Counter = codes "u64"
number_type _ = codes "u32"

abbrev pub type_text : Nature → Shown → List ℕ
type_text nature Nothing = codes "str"
type_text nature (Number number) = number_type nature
type_text nature (Word word) = codes "str"
type_text nature (Name name) = codes "str"
type_text nature (Span seconds) = codes "str"

-- PLACE.NAME.1:TAGS: the number behind the name is that of the process
unfoldable pub typed_label : Field → List ℕ
typed_label field = decimal field.place ++ codes "." ++ field.name ++ codes ".1:" ++ letters field.tags ++ codes ":"

-- PLACE.NAME.1:TAGS:TYPE:VALUE
unfoldable pub typed_line : Field → List ℕ
typed_line field = typed_label field ++ type_text field.tags.nature field.value ++ codes ":" ++ plain_text field.value ++ codes "\n"

unfoldable pub json_place : Field → List ℕ
json_place field = part_text parts.Place ++ decimal field.place ++ part_text parts.Name

unfoldable pub json_label : Field → List ℕ
json_label field = json_place field ++ field.name ++ part_text parts.Tags ++ json_tags field.tags

-- the rest of an object, from the field on
unfoldable pub json_rest : Field → List ℕ
json_rest field = json_label field ++ part_text parts.Type ++ type_text field.tags.nature field.value ++ part_text parts.Value ++ json_value field.value ++ codes "}}"
