-- The nearest of some words.
use Rattle.std.specs.Prelude.{◌-◌, ◌/◌, ℕ, nat_eq, nat_lt, nat_le, Bool, ◌&&◌, ◌||◌, Option, Some, None, List, [], ◌∷◌, length, max, min, codes, if◌then◌else◌}
use Rattle.std.specs.Bool.{beq}
use Rattle.std.specs.List.{list_any}
use Rattle.std.specs.Str.{bytes_eq}
use Rattle.base_lines.specs.Parts.{is_byte, parts}
use Rattle.strsim.specs.Edits.{levenshtein_row}

-- how many bytes have to be added, removed or replaced to make one word the other
abbrev pub distance : List ℕ → List ℕ → ℕ
distance from to = levenshtein_row nat_eq from to (length to)

-- how far a guess may be from a word: 2 bytes, or a third of the word's where these are more; and fewer than half of them
abbrev pub farthest : List ℕ → ℕ
farthest word = min ((length word - 1) / 2) (max 2 (length word / 3))

-- a word, and how far it is
abbrev pub Near : Type 0
Near = ℕ × List ℕ

-- the nearer of two words: the first where they are equally far
abbrev pub nearer : Option Near → Near → Option Near
nearer None new = Some new
nearer (Some old) new = if nat_lt new.0 old.0 then Some new else Some old

-- the nearest word so far, or the next one, where that is near enough
unfoldable pub or_next : List ℕ → Option Near → List ℕ → Option Near
or_next word best next = if nat_le (distance word next) (farthest word) then nearer best (distance word next, next) else best

-- whether a word does an act: one of its parts, at hyphens or at underscores, names the act
abbrev pub does : List ℕ → List ℕ → Bool
does act word = list_any (bytes_eq act) (parts (is_byte 45) word) || list_any (bytes_eq act) (parts (is_byte 95) word)

abbrev pub does_alike : List ℕ → List ℕ → List ℕ → Bool
does_alike act one other = beq (does act one) (does act other)

-- whether two words do the same to a counter or a tag: both count up, both clear, both set, or both only read it
unfoldable pub has_same_acts : List ℕ → List ℕ → Bool
has_same_acts one other = does_alike (codes "inc") one other && does_alike (codes "clr") one other && does_alike (codes "set") one other

-- of the words that do the same as the one that was written, the nearest that is near enough, and of the one that was found before them; of two
-- that are equally far the first
abbrev pub nearest_alike : List ℕ → Option Near → List (List ℕ) → Option Near
nearest_alike word best [] = best
nearest_alike word best (next ∷ more) = nearest_alike word (if has_same_acts word next then or_next word best next else best) more
