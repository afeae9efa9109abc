-- Which addresses a network holds.
use Rattle.std.specs.Prelude.{refl, Bool, true, false, ◌≡◌, ℕ, ◌-◌, ◌/◌, ◌^◌, ◌==◌, ◌&&◌, [], ◌∷◌, drop}
use Rattle.std.specs.Int.{from_be_bytes, w32, w128}
use Rattle.stick_key.specs.Ipv6Printed.{is_mapped}
use Rattle.rule_addresses.specs.declared.address.Address.{Address}
use Rattle.rule_addresses.specs.declared.address.Address.TheVariants.{V4, V6}
use Rattle.rule_addresses.specs.declared.address.Network.{Network}

-- whether two numbers of so many bits agree in the first n
abbrev pub agree : ℕ → ℕ → ℕ → ℕ → Bool
agree bits n a b = (a / 2 ^ (bits - n)) == (b / 2 ^ (bits - n))

-- whether an address agrees with a pattern in the first n bits; an IPv6 address that stands for an IPv4 one does so with an IPv4 pattern, by its last four bytes
abbrev pub matches : Address → ℕ → Address → Bool
matches (V4 pattern) n (V4 source) = agree 32 n (from_be_bytes w32 pattern) (from_be_bytes w32 source)
matches (V4 pattern) n (V6 source) = is_mapped source && agree 32 n (from_be_bytes w32 pattern) (from_be_bytes w32 (drop 12 source))
matches (V6 pattern) n (V4 source) = false
matches (V6 pattern) n (V6 source) = agree 128 n (from_be_bytes w128 pattern) (from_be_bytes w128 source)

-- whether the network holds the address
unfoldable pub holds : Network → Address → Bool
holds network source = matches network.address network.length source

-- examples
holds-first_bits : holds (record { address = V4 (10 ∷ 1 ∷ 2 ∷ 3 ∷ []); length = 9 }) (V4 (10 ∷ 127 ∷ 0 ∷ 0 ∷ [])) ≡ true
unfolding holds
holds-first_bits = refl

holds-other_bit : holds (record { address = V4 (10 ∷ 1 ∷ 2 ∷ 3 ∷ []); length = 9 }) (V4 (10 ∷ 128 ∷ 0 ∷ 0 ∷ [])) ≡ false
unfolding holds
holds-other_bit = refl
