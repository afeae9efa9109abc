-- What stands in parentheses behind a name.
use Rattle.std.specs.Prelude.{ℕ, ◌-◌, ◌&&◌, ◌==◌, Bool, List, length, nat_le, slice_index, slice_range, Option, Some, None, if◌then◌else◌}
use Rattle.std.specs.List.{list_any}
use Rattle.base_lines.specs.Parts.{first_part, is_byte}
use Rattle.base_lines.specs.Words.{from_blank}

-- what stands before a parenthesis
abbrev pub before_parenthesis : List ℕ → List ℕ
before_parenthesis text = first_part (is_byte 40) text

-- from that parenthesis on
abbrev pub from_parenthesis : List ℕ → List ℕ
from_parenthesis text = from_blank (is_byte 40) text

-- what stands between parentheses round a whole text
abbrev pub inside : List ℕ → Option (List ℕ)
inside text =
    if nat_le 2 (length text) && (slice_index text 0 == 40) && (slice_index text (length text - 1) == 41)
    then Some (slice_range text 1 (length text - 1))
    else None

-- whether a closing parenthesis stands in it
abbrev pub has_closing : List ℕ → Bool
has_closing text = list_any (is_byte 41) text
