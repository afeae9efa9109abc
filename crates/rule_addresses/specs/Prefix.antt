-- What is left of a source where it is a key: its first bits, with zeros behind them.
use Rattle.std.specs.Prelude.{refl, ◌≡◌, ℕ, ◌+◌, ◌-◌, ◌*◌, ◌/◌, ◌^◌, List, [], ◌∷◌, if◌then◌else◌}
use Rattle.stick_key.specs.Ipv6Printed.{is_mapped}
use Rattle.rule_addresses.specs.declared.address.Address.{Address}
use Rattle.rule_addresses.specs.declared.address.Address.TheVariants.{V4, V6}
use Rattle.rule_addresses.specs.declared.masking.Prefixes.{Prefixes}

-- the first n bits of a byte, with zeros behind them
abbrev pub byte_prefix : ℕ → ℕ → ℕ
byte_prefix n byte = byte / 2 ^ (8 - n) * 2 ^ (8 - n)

-- the first n bits of bytes, with zeros behind them
abbrev pub first_bits : ℕ → List ℕ → List ℕ
first_bits n [] = []
first_bits n (byte ∷ bytes) = byte_prefix n byte ∷ first_bits (n - 8) bytes

-- how many bits of an address are kept; one that stands for an IPv4 address keeps its first 96, and of that what an IPv4 address keeps
abbrev pub kept_bits : Prefixes → Address → ℕ
kept_bits prefixes (V4 bytes) = prefixes.ipv4
kept_bits prefixes (V6 bytes) = if is_mapped bytes then 96 + prefixes.ipv4 else prefixes.ipv6

-- an address with zeros behind its first n bits
abbrev pub prefix_of : ℕ → Address → Address
prefix_of n (V4 bytes) = V4 (first_bits n bytes)
prefix_of n (V6 bytes) = V6 (first_bits n bytes)

-- the address with zeros behind the bits that are kept
unfoldable pub masked : Prefixes → Address → Address
masked prefixes address = prefix_of (kept_bits prefixes address) address

-- whole addresses
abbrev pub whole : Prefixes
whole = record { ipv4 = 32; ipv6 = 128 }

-- examples
masked-subnet : masked (record { ipv4 = 24; ipv6 = 64 }) (V4 (10 ∷ 1 ∷ 2 ∷ 3 ∷ [])) ≡ V4 (10 ∷ 1 ∷ 2 ∷ 0 ∷ [])
unfolding masked
masked-subnet = refl

masked-part_of_a_byte : masked (record { ipv4 = 12; ipv6 = 64 }) (V4 (10 ∷ 0xbc ∷ 2 ∷ 3 ∷ [])) ≡ V4 (10 ∷ 0xb0 ∷ 0 ∷ 0 ∷ [])
unfolding masked
masked-part_of_a_byte = refl

masked-ipv6 : masked (record { ipv4 = 32; ipv6 = 64 }) (V6 (0x20 ∷ 1 ∷ 0xd ∷ 0xb8 ∷ 1 ∷ 2 ∷ 3 ∷ 4 ∷ 5 ∷ 6 ∷ 7 ∷ 8 ∷ 9 ∷ 10 ∷ 11 ∷ 12 ∷ []))
    ≡ V6 (0x20 ∷ 1 ∷ 0xd ∷ 0xb8 ∷ 1 ∷ 2 ∷ 3 ∷ 4 ∷ 0 ∷ 0 ∷ 0 ∷ 0 ∷ 0 ∷ 0 ∷ 0 ∷ 0 ∷ [])
unfolding masked
masked-ipv6 = refl

masked-stands_for_ipv4 : masked (record { ipv4 = 32; ipv6 = 64 }) (V6 (0 ∷ 0 ∷ 0 ∷ 0 ∷ 0 ∷ 0 ∷ 0 ∷ 0 ∷ 0 ∷ 0 ∷ 255 ∷ 255 ∷ 10 ∷ 0 ∷ 0 ∷ 1 ∷ []))
    ≡ V6 (0 ∷ 0 ∷ 0 ∷ 0 ∷ 0 ∷ 0 ∷ 0 ∷ 0 ∷ 0 ∷ 0 ∷ 255 ∷ 255 ∷ 10 ∷ 0 ∷ 0 ∷ 1 ∷ [])
unfolding masked
masked-stands_for_ipv4 = refl
