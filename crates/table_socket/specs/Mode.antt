-- Permissions of a file, as they are written.
use Rattle.std.specs.Prelude.{ℕ, ◌≤◌, List, length}
use Rattle.std.specs.Str.Parse.{IsNumeral, digits_value}

-- one to four octal digits, and nothing else, up to 0777
abbrev pub IsMode : List ℕ → Type 0
IsMode text = IsNumeral 8 text × (length text ≤ 4) × (digits_value 8 text ≤ 511)
