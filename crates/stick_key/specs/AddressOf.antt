-- The address that a text spells, if any.
use Rattle.std.specs.Prelude.{refl, ◌↔◌, Bool, true, false, ◌≡◌, ℕ, ◌+◌, ◌-◌, ◌==◌, ◌&&◌, ◌++◌, not, nat_eq, nat_lt, nat_le, List, [], ◌∷◌, length, slice_index, drop, replicate, flat_map, codes, Option, Some, None, option_and_then, if◌then◌else◌}
use Rattle.std.specs.Option.{option_map}
use Rattle.std.specs.List.{list_all, slice_split, starts_with}
use Rattle.std.specs.Str.Parse.{digits_value}
use Rattle.stick_key.specs.Dotted.{AreBytes, groups, numbers}
use Rattle.stick_key.specs.Ipv6Text.{group_bytes, pairs}
use Rattle.stick_key.specs.KeyText.{Reads}
use Rattle.stick_key.specs.Numeral.{is_numeral}
use Rattle.stick_key.specs.declared.kind.KeyType.TheVariants.{Ip, Ipv6}

infixl 10 ◌>>=◌
abbrev pub ◌>>=◌ : {A B : Type 0} → Option A → (A → Option B) → Option B
o >>= f = option_and_then f o

-- one to three decimal digits, of which the first of several isn't 0, of a number up to 255
abbrev pub is_octet : List ℕ → Bool
is_octet group = is_numeral 10 group && nat_le (length group) 3 && not (nat_lt 1 (length group) && slice_index group 0 == 48) && nat_lt (digits_value 10 group) 256

-- four of them, joined by dots
unfoldable pub dotted_of : List ℕ → Option (List ℕ)
dotted_of text = if (length (groups text) == 4) && list_all is_octet (groups text) then Some (numbers text) else None

-- one to four hexadecimal digits, in either case
abbrev pub is_hex_group : List ℕ → Bool
is_hex_group part = is_numeral 16 part && nat_le (length part) 4

-- the groups of parts: one of each that is hexadecimal; where an IPv4 text may be the last, two of that
abbrev pub groups_of : Bool → List (List ℕ) → Option (List ℕ)
groups_of dotted_end [] = Some []
groups_of dotted_end (part ∷ []) =
    if is_hex_group part then Some (digits_value 16 part ∷ []) else (if dotted_end then option_map pairs (dotted_of part) else None)
groups_of dotted_end (part ∷ next ∷ parts) =
    if is_hex_group part then option_map (λ rest. digits_value 16 part ∷ rest) (groups_of dotted_end (next ∷ parts)) else None

-- the groups of a text, whose parts are joined by colons; an empty one has none
abbrev pub side_of : Bool → List ℕ → Option (List ℕ)
side_of dotted_end [] = Some []
side_of dotted_end (byte ∷ text) = groups_of dotted_end (slice_split (λ b. b == 58) (byte ∷ text))

-- what stands before and after the first ::
abbrev pub sides_of : List ℕ → Option (List ℕ × List ℕ)
sides_of [] = None
sides_of (byte ∷ text) =
    if starts_with nat_eq (byte ∷ text) (codes "::") then Some ([], drop 1 text) else option_map (λ sides. (byte ∷ sides.0, sides.1)) (sides_of text)

-- eight groups, all written out, or with zeros for one or more where :: stands
abbrev pub eight_of : List ℕ → Option (List ℕ × List ℕ) → Option (List ℕ)
eight_of text None = do
  all ← side_of true text
  if length all == 8 then Some all else None
eight_of text (Some sides) = do
  high ← side_of false sides.0
  low ← side_of true sides.1
  if nat_lt (length high + length low) 8 then Some (high ++ (replicate (8 - (length high + length low)) 0 ++ low)) else None

-- the bytes of those groups
unfoldable pub ipv6_of : List ℕ → Option (List ℕ)
ipv6_of text = option_map (flat_map group_bytes) (eight_of text (sides_of text))

-- a text gives an address exactly where it spells it
abbrev pub GivesWhatIsSpelled : Type 0
GivesWhatIsSpelled = (text address : List ℕ) →
    ((dotted_of text ≡ Some address) ↔ Reads Ip text address) × ((ipv6_of text ≡ Some address) ↔ Reads Ipv6 text address)

-- the address is of four bytes or of sixteen
abbrev pub GivesBytes : Type 0
GivesBytes = (text address : List ℕ) →
    (dotted_of text ≡ Some address → AreBytes address × (length address ≡ 4)) × (ipv6_of text ≡ Some address → AreBytes address × (length address ≡ 16))

-- examples
dotted-loopback : dotted_of (codes "127.0.0.1") ≡ Some (127 ∷ 0 ∷ 0 ∷ 1 ∷ [])
unfolding dotted_of
dotted-loopback = refl

dotted-leading_zero : dotted_of (codes "127.0.0.01") ≡ None
unfolding dotted_of
dotted-leading_zero = refl

dotted-too_large : dotted_of (codes "127.0.0.256") ≡ None
unfolding dotted_of
dotted-too_large = refl

dotted-three_parts : dotted_of (codes "127.0.1") ≡ None
unfolding dotted_of
dotted-three_parts = refl

spelled-full : ipv6_of (codes "2001:DB8:0:0:8:800:200C:417A") ≡ Some (0x20 ∷ 1 ∷ 0xd ∷ 0xb8 ∷ 0 ∷ 0 ∷ 0 ∷ 0 ∷ 0 ∷ 8 ∷ 8 ∷ 0 ∷ 0x20 ∷ 0xc ∷ 0x41 ∷ 0x7a ∷ [])
unfolding ipv6_of dotted_of
spelled-full = refl

spelled-shortened : ipv6_of (codes "2001:DB8::8:800:200C:417A") ≡ ipv6_of (codes "2001:DB8:0:0:8:800:200C:417A")
unfolding ipv6_of dotted_of
spelled-shortened = refl

spelled-loopback : ipv6_of (codes "::1") ≡ Some (0 ∷ 0 ∷ 0 ∷ 0 ∷ 0 ∷ 0 ∷ 0 ∷ 0 ∷ 0 ∷ 0 ∷ 0 ∷ 0 ∷ 0 ∷ 0 ∷ 0 ∷ 1 ∷ [])
unfolding ipv6_of dotted_of
spelled-loopback = refl

spelled-unspecified : ipv6_of (codes "::") ≡ Some (replicate 16 0)
unfolding ipv6_of dotted_of
spelled-unspecified = refl

spelled-mixed : ipv6_of (codes "::FFFF:129.144.52.38") ≡ Some (0 ∷ 0 ∷ 0 ∷ 0 ∷ 0 ∷ 0 ∷ 0 ∷ 0 ∷ 0 ∷ 0 ∷ 0xff ∷ 0xff ∷ 129 ∷ 144 ∷ 52 ∷ 38 ∷ [])
unfolding ipv6_of dotted_of
spelled-mixed = refl

spelled-two_gaps : ipv6_of (codes "1::2::3") ≡ None
unfolding ipv6_of dotted_of
spelled-two_gaps = refl

spelled-gap_of_none : ipv6_of (codes "1:2:3:4::5:6:7:8") ≡ None
unfolding ipv6_of dotted_of
spelled-gap_of_none = refl
