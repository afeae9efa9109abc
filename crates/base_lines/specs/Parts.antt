-- Lists of bytes, parted.
use Rattle.std.specs.Prelude.{ℕ, Bool, ◌==◌, List, [], ◌∷◌, if◌then◌else◌}

-- up to the first byte that parts
abbrev pub first_part : (ℕ → Bool) → List ℕ → List ℕ
first_part parting [] = []
first_part parting (b ∷ bs) = if parting b then [] else b ∷ first_part parting bs

-- behind each byte that parts, up to the next
abbrev pub other_parts : (ℕ → Bool) → List ℕ → List (List ℕ)
other_parts parting [] = []
other_parts parting (b ∷ bs) = if parting b then first_part parting bs ∷ other_parts parting bs else other_parts parting bs

-- all parts, one more than there are bytes that part
abbrev pub parts : (ℕ → Bool) → List ℕ → List (List ℕ)
parts parting bytes = first_part parting bytes ∷ other_parts parting bytes

-- the bytes that are this one
abbrev pub is_byte : ℕ → ℕ → Bool
is_byte separator b = b == separator

-- what parts lines
abbrev pub is_line_end : ℕ → Bool
is_line_end b = is_byte 10 b

-- what parts the commands of a line
abbrev pub is_semicolon : ℕ → Bool
is_semicolon b = is_byte 59 b
