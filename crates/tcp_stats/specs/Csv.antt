-- A name in a line of values with commas between (RFC 4180).
use Rattle.std.specs.Prelude.{ℕ, Bool, ◌==◌, ◌||◌, List, [], ◌∷◌, ◌++◌, codes, if◌then◌else◌}
use Rattle.std.specs.List.{flat_map, list_any}

-- a comma, a quote or a line's end, which a name between quotes alone can have
abbrev pub is_special : ℕ → Bool
is_special byte = (byte == 44) || (byte == 34) || (byte == 10) || (byte == 13)

-- a quote is written twice
abbrev pub quoted_byte : ℕ → List ℕ
quoted_byte byte = if byte == 34 then 34 ∷ 34 ∷ [] else byte ∷ []

-- a name as it is, or between quotes where it has such a byte
abbrev pub csv_text : List ℕ → List ℕ
csv_text name = if list_any is_special name then codes "\"" ++ flat_map quoted_byte name ++ codes "\"" else name
