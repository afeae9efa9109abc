-- The groups of a system, as group(5) lists them.
use Rattle.std.specs.Prelude.{ℕ, ◌-◌, ◌^◌, nat_eq, nat_lt, Option, Some, None, List, [], ◌∷◌, if◌then◌else◌}
use Rattle.std.specs.Option.{option_or}
use Rattle.std.specs.Cmp.Lexicographic.{pointwise}
use Rattle.base_lines.specs.Parts.{parts, is_byte}
use Rattle.base_lines.specs.Number.{number_of}

-- what a line has between colons
abbrev pub parts_of_line : List ℕ → List (List ℕ)
parts_of_line line = parts (is_byte 58) line

-- a number that a group may have: the greatest of 32 bits stands for none
abbrev pub group_number_of : Option ℕ → Option ℕ
group_number_of None = None
group_number_of (Some number) = if nat_lt number (2 ^ 32 - 1) then Some number else None

-- a line has a group's name, a password and its number
abbrev pub group_of_line : List ℕ → List (List ℕ) → Option ℕ
group_of_line name (first ∷ password ∷ number ∷ rest) = if pointwise nat_eq first name then group_number_of (number_of number) else None
group_of_line name other = None

-- the number of the first line that has one of this name
abbrev pub first_group : List ℕ → List (List ℕ) → Option ℕ
first_group name [] = None
first_group name (line ∷ lines) = option_or (group_of_line name (parts_of_line line)) (first_group name lines)
