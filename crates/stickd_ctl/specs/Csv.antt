-- A listing as comma-separated values (RFC 4180), each line ended by LF alone.
use Rattle.std.specs.Prelude.{ℕ, Bool, ◌==◌, ◌||◌, List, [], ◌∷◌, ◌++◌, codes, filter, if◌then◌else◌}
use Rattle.std.specs.List.{flat_map, list_any}
use Rattle.base_lines.specs.Parts.{parts, is_line_end}
use Rattle.stickd_ctl.specs.Lines.{behind, is_row, key_of}
use Rattle.stickd_ctl.specs.Json.{name_of, numbers_of}

-- a field stands between quotes that has a comma, a quote or the end of a line
abbrev pub wants_quotes : ℕ → Bool
wants_quotes byte = (byte == 44) || (byte == 34) || (byte == 13) || (byte == 10)

abbrev pub is_quoted : List ℕ → Bool
is_quoted bytes = list_any wants_quotes bytes

-- between quotes a quote stands twice
abbrev pub doubled_byte : ℕ → List ℕ
doubled_byte byte = if byte == 34 then 34 ∷ 34 ∷ [] else byte ∷ []

abbrev pub field_text : List ℕ → List ℕ
field_text bytes = if is_quoted bytes then 34 ∷ flat_map doubled_byte bytes ++ 34 ∷ [] else bytes

-- the name of a number, and the number, each behind a comma
abbrev pub name_field : List ℕ → List ℕ
name_field word = codes "," ++ field_text (name_of word)

abbrev pub value_field : List ℕ → List ℕ
value_field word = codes "," ++ field_text (behind 61 word)

-- key, and the names of an entry's numbers
abbrev pub heading_text : List ℕ → List ℕ
heading_text line = codes "key" ++ flat_map name_field (numbers_of line) ++ codes "\n"

-- a key as the listing writes it, and its numbers
abbrev pub row_csv : List ℕ → List ℕ
row_csv line = field_text (key_of line) ++ flat_map value_field (numbers_of line) ++ codes "\n"

-- the lines of entries
abbrev pub rows_of : List ℕ → List (List ℕ)
rows_of listing = filter is_row (parts is_line_end listing)

-- the names stand as the first entry has them; where there is none, those that each entry has
abbrev pub heading_of : List (List ℕ) → List ℕ
heading_of [] = codes "key,use,exp\n"
heading_of (row ∷ rows) = heading_text row

-- the heading, and then each entry
abbrev pub csv : List ℕ → List ℕ
csv listing = heading_of (rows_of listing) ++ flat_map row_csv (rows_of listing)
