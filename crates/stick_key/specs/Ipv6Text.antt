-- The text of an IPv6 address (RFC 4291, section 2.2).
use Rattle.std.specs.Prelude.{Bool, IsTrue, true, false, ◌≡◌, ℕ, ◌+◌, ◌*◌, ◌≤◌, ◌/◌, ◌%◌, ◌++◌, ◌⊎◌, List, [], ◌∷◌, length, replicate, flat_map}
use Rattle.std.specs.List.{join_with_byte}
use Rattle.std.specs.Str.Parse.{IsNumeral, digits_value}
use Rattle.stick_key.specs.Dotted.{IsDotted, numbers, AreBytes}

-- one to four hexadecimal digits, in either case
abbrev pub IsHexGroup : List ℕ → Type 0
IsHexGroup part = IsNumeral 16 part × (length part ≤ 4)

-- two bytes at a time are a group, the higher one first
abbrev pub pairs : List ℕ → List ℕ
pairs [] = []
pairs (high ∷ []) = high ∷ []
pairs (high ∷ low ∷ rest) = (256 * high + low) ∷ pairs rest

-- parts that spell these groups: each is hexadecimal, but for the last one, which may be an IPv4 text in place of two groups where that is allowed
abbrev pub Spell : Bool → List (List ℕ) → List ℕ → Type 0
Spell dotted_end [] groups = groups ≡ []
Spell dotted_end (part ∷ []) groups =
    (IsHexGroup part × (groups ≡ digits_value 16 part ∷ [])) ⊎ (IsTrue dotted_end × IsDotted part × AreBytes (numbers part) × (groups ≡ pairs (numbers part)))
Spell dotted_end (part ∷ next ∷ parts) groups =
    IsHexGroup part × ((rest : List ℕ) × (groups ≡ digits_value 16 part ∷ rest) × Spell dotted_end (next ∷ parts) rest)

-- groups, joined by colons
pub record IsFull (text groups : List ℕ) : Type 0 where
  pub parts : List (List ℕ)
  pub spelled : text ≡ join_with_byte 58 parts
  pub spell : Spell true parts groups

-- groups, and once :: for one or more groups of zeros
pub record IsShortened (text groups : List ℕ) : Type 0 where
  pub prefix : List (List ℕ)
  pub back : List (List ℕ)
  pub high : List ℕ
  pub low : List ℕ
  pub zeros : ℕ
  pub spelled : text ≡ join_with_byte 58 prefix ++ (58 ∷ 58 ∷ join_with_byte 58 back)
  pub spell_front : Spell false prefix high
  pub spell_back : Spell true back low
  pub some_zeros : 1 ≤ zeros
  pub all : groups ≡ high ++ (replicate zeros 0 ++ low)

-- the text spells these groups
abbrev pub Spells : List ℕ → List ℕ → Type 0
Spells text groups = IsFull text groups ⊎ IsShortened text groups

-- the bytes of a group, the higher one first
abbrev pub group_bytes : ℕ → List ℕ
group_bytes group = group / 256 ∷ group % 256 ∷ []

-- the text is that of the address: eight groups, of two bytes each
pub record IsIpv6 (text address : List ℕ) : Type 0 where
  pub groups : List ℕ
  pub eight : length groups ≡ 8
  pub spelled : Spells text groups
  pub bytes : address ≡ flat_map group_bytes groups
