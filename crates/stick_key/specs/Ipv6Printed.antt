-- The printed form of an IPv6 address (RFC 5952, section 4).
use Rattle.std.specs.Prelude.{refl, Bool, false, ◌≡◌, ℕ, ◌+◌, ◌==◌, ◌++◌, nat_eq, nat_lt, max, List, [], ◌∷◌, map, take, drop, fold, codes, if◌then◌else◌}
use Rattle.std.specs.List.{join_with_byte, prefix_len, position_or_len, starts_with}
use Rattle.std.specs.Fmt.{digits}
use Rattle.stick_key.specs.Dotted.{dotted}
use Rattle.stick_key.specs.Ipv6Text.{pairs}

-- how many groups of zeros there are from a place on
abbrev pub zeros_from : List ℕ → ℕ → ℕ
zeros_from groups start = prefix_len (λ group. group == 0) (drop start groups)

-- the places of the eight groups
abbrev pub places : List ℕ
places = 0 ∷ 1 ∷ 2 ∷ 3 ∷ 4 ∷ 5 ∷ 6 ∷ 7 ∷ []

-- the length of the longest run of zeros
abbrev pub longest : List ℕ → ℕ
longest groups = fold max 0 (map (zeros_from groups) places)

-- where the first run of that length begins
abbrev pub first_longest : List ℕ → ℕ
first_longest groups = position_or_len (λ start. zeros_from groups start == longest groups) places

-- groups in lower-case hexadecimal, without leading zeros, joined by colons
abbrev pub joined : List ℕ → List ℕ
joined groups = join_with_byte 58 (map (digits 16 false) groups)

-- eight groups, with :: for the first of the longest runs of zeros where that is longer than one
abbrev pub shortened : List ℕ → List ℕ
shortened groups =
    if nat_lt (longest groups) 2 then joined groups
    else joined (take (first_longest groups) groups) ++ (58 ∷ 58 ∷ joined (drop (first_longest groups + longest groups) groups))

-- how the addresses begin that stand for IPv4 ones (RFC 4291, section 2.5.5.2)
abbrev pub mapped_prefix : List ℕ
mapped_prefix = 0 ∷ 0 ∷ 0 ∷ 0 ∷ 0 ∷ 0 ∷ 0 ∷ 0 ∷ 0 ∷ 0 ∷ 255 ∷ 255 ∷ []

abbrev pub is_mapped : List ℕ → Bool
is_mapped address = starts_with nat_eq address mapped_prefix

-- the text of the address; one that stands for an IPv4 address ends in the text of that
abbrev pub ipv6 : List ℕ → List ℕ
ipv6 address = if is_mapped address then codes "::ffff:" ++ dotted (drop 12 address) else shortened (pairs address)

-- examples
shown-equal_runs : shortened (0x2001 ∷ 0xdb8 ∷ 0 ∷ 0 ∷ 1 ∷ 0 ∷ 0 ∷ 1 ∷ []) ≡ codes "2001:db8::1:0:0:1"
unfolding digits
shown-equal_runs = refl

shown-documentation : shortened (0x2001 ∷ 0xdb8 ∷ 0 ∷ 0 ∷ 0 ∷ 0 ∷ 0 ∷ 1 ∷ []) ≡ codes "2001:db8::1"
unfolding digits
shown-documentation = refl

shown-unspecified : shortened (0 ∷ 0 ∷ 0 ∷ 0 ∷ 0 ∷ 0 ∷ 0 ∷ 0 ∷ []) ≡ codes "::"
unfolding digits
shown-unspecified = refl

shown-one_zero : shortened (1 ∷ 0 ∷ 2 ∷ 3 ∷ 4 ∷ 5 ∷ 6 ∷ 0xabcd ∷ []) ≡ codes "1:0:2:3:4:5:6:abcd"
unfolding digits
shown-one_zero = refl
