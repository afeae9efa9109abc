-- What RFC 5952, section 4, asks of the text of eight groups, rule by rule.
use Rattle.std.specs.Prelude.{false, ◌≡◌, ◌≢◌, ℕ, ◌<◌, ◌≤◌, ◌++◌, ◌⊎◌, List, ◌∷◌, length, slice_index, replicate}
use Rattle.std.specs.List.{AllByRecursion, join_with_byte}
use Rattle.stick_key.specs.Dotted.{AreBytes}
use Rattle.stick_key.specs.Ipv6Printed.{ipv6, is_mapped, zeros_from}
use Rattle.stick_key.specs.Ipv6Text.{Spell, pairs}

-- the first of several digits isn't 0 (4.1), and the digits a to f are in lower case (4.3)
pub record IsPlain (part : List ℕ) : Type 0 where
  pub no_leading_zero : 1 < length part → slice_index part 0 ≢ 48
  pub lower_case : AllByRecursion (λ byte. byte < 65 ⊎ 97 ≤ byte) part

-- no :: where there are no two groups of zeros in a row
pub record IsCanonicalFull (text groups : List ℕ) : Type 0 where
  pub parts : List (List ℕ)
  pub spelled : text ≡ join_with_byte 58 parts
  pub spell : Spell false parts groups
  pub plain : AllByRecursion IsPlain parts
  pub no_run : (place : ℕ) → zeros_from groups place < 2

-- :: for as many zeros as there are in a row (4.2.1), more than one (4.2.2), of which no run is longer, and none of that length comes before (4.2.3)
pub record IsCanonicalShortened (text groups : List ℕ) : Type 0 where
  pub prefix : List (List ℕ)
  pub back : List (List ℕ)
  pub high : List ℕ
  pub low : List ℕ
  pub zeros : ℕ
  pub spelled : text ≡ join_with_byte 58 prefix ++ (58 ∷ 58 ∷ join_with_byte 58 back)
  pub spell_front : Spell false prefix high
  pub spell_back : Spell false back low
  pub plain_prefix : AllByRecursion IsPlain prefix
  pub plain_back : AllByRecursion IsPlain back
  pub all : groups ≡ high ++ (replicate zeros 0 ++ low)
  pub several : 2 ≤ zeros
  pub longest : (place : ℕ) → zeros_from groups place ≤ zeros
  pub first : (place : ℕ) → place < length high → zeros_from groups place < zeros

-- a text of these groups that keeps every rule
abbrev pub IsCanonical : List ℕ → List ℕ → Type 0
IsCanonical text groups = IsCanonicalFull text groups ⊎ IsCanonicalShortened text groups

-- the printed form of an address keeps every rule, and no other text of the address does; addresses that stand for IPv4 ones apart
abbrev pub PrintedIsCanonical : Type 0
PrintedIsCanonical = (address : List ℕ) → AreBytes address → length address ≡ 16 → is_mapped address ≡ false →
    IsCanonical (ipv6 address) (pairs address) × ((other : List ℕ) → IsCanonical other (pairs address) → other ≡ ipv6 address)
