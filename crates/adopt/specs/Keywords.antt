-- What becomes of a line by its keyword, and of an option by its word: what the first row says that has it.
use Rattle.std.specs.Prelude.{ℕ, Bool, true, false, Option, Some, None, List, [], ◌∷◌, if◌then◌else◌}
use Rattle.std.specs.List.{list_any}
use Rattle.std.specs.Str.{bytes_eq}
use Rattle.base_lines.specs.Parts.{parts, is_byte}
use Rattle.adopt.specs.declared.keywords.Told.{Told}
use Rattle.adopt.specs.declared.keywords.Sort.{Sort}
use Rattle.adopt.specs.declared.keywords.Sort.TheVariants.{Kept, Carried, Harmless, Change}
use Rattle.adopt.specs.declared.reasons.Why.{Why}
use Rattle.adopt.specs.declared.reasons.Why.TheVariants.{UnknownKeyword}

-- whether keywords, with a blank between any two, have a word
abbrev pub has_keyword : List ℕ → List ℕ → Bool
has_keyword word keywords = list_any (bytes_eq word) (parts (is_byte 32) keywords)

-- the fates of a keyword that change what is served, where no other code reads its line
abbrev pub changes : Sort → Bool
changes Kept = true
changes Carried = false
changes Harmless = false
changes Change = true

-- what is said of a line whose keyword has this fate
abbrev pub says : Sort → Why → Told
says sort why = record { why = why; matters = changes sort }

-- what the first row says that has a word
abbrev pub said_of : List ℕ → List (List ℕ × Told) → Option Told
said_of word [] = None
said_of word (row ∷ rows) = if has_keyword word row.0 then Some row.1 else said_of word rows

-- what no row has is a change
abbrev pub or_change : Option Told → Told
or_change (Some left) = left
or_change None = record { why = UnknownKeyword; matters = true }

-- what is said of a word
abbrev pub left_of : List ℕ → List (List ℕ × Told) → Told
left_of word rows = or_change (said_of word rows)
