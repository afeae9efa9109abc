-- The address, the network or the endpoint that a text spells, if any.
use Rattle.std.specs.Prelude.{refl, ◌≡◌, ℕ, ◌==◌, ◌&&◌, ◌||◌, ◌-◌, nat_eq, nat_lt, nat_le, List, [], ◌∷◌, length, take, drop, replicate, codes, Option, Some, None, if◌then◌else◌}
use Rattle.std.specs.Option.{option_map, option_or}
use Rattle.std.specs.Cmp.Lexicographic.{pointwise}
use Rattle.std.specs.List.{list_any, before_last, after_last, starts_with, ends_with}
use Rattle.base_lines.specs.Number.{number_of}
use Rattle.base_lines.specs.Parts.{parts, is_byte}
use Rattle.stick_key.specs.AddressOf.{dotted_of, ipv6_of, ◌>>=◌}
use Rattle.rule_addresses.specs.declared.address.Address.{Address}
use Rattle.rule_addresses.specs.declared.address.Address.TheVariants.{V4, V6}
use Rattle.rule_addresses.specs.declared.address.Network.{Network}
use Rattle.rule_addresses.specs.declared.address.Endpoint.{Endpoint}

-- an IPv4 or an IPv6 address
unfoldable pub address_of : List ℕ → Option Address
address_of text = option_or (option_map V4 (dotted_of text)) (option_map V6 (ipv6_of text))

-- how many bits an address has
abbrev pub bits_of : Address → ℕ
bits_of (V4 bytes) = 32
bits_of (V6 bytes) = 128

-- the addresses that agree with one in its first n bits, of as many as it has
abbrev pub network_at : Address → ℕ → Option Network
network_at address n = if nat_le n (bits_of address) then Some (record { address = address; length = n }) else None

-- an address, and how many bits are compared where that follows
abbrev pub network_of_parts : List (List ℕ) → Option Network
network_of_parts [] = None
network_of_parts (text ∷ []) = do
  address ← address_of text
  network_at address (bits_of address)
network_of_parts (text ∷ digits ∷ []) = do
  address ← address_of text
  n ← number_of digits
  network_at address n
network_of_parts (text ∷ digits ∷ other ∷ parts) = None

-- an address, or an address and a number parted by a slash
unfoldable pub network_of : List ℕ → Option Network
network_of text = network_of_parts (parts (is_byte 47) text)

-- what stands in brackets
abbrev pub bracketed : List ℕ → Option (List ℕ)
bracketed text =
    if nat_le 2 (length text) && starts_with nat_eq text (codes "[") && ends_with nat_eq text (codes "]") then Some (drop 1 (take (length text - 1) text)) else None

-- an IPv4 address, or an IPv6 address in brackets
abbrev pub host_of : List ℕ → Option Address
host_of text = option_or (option_map V4 (dotted_of text)) (option_map V6 (bracketed text >>= ipv6_of))

-- the same, or nothing or a star for every IPv4 address
abbrev pub bind_host_of : List ℕ → Option Address
bind_host_of text = if (length text == 0) || pointwise nat_eq text (codes "*") then Some (V4 (replicate 4 0)) else host_of text

-- 1 to 65535
abbrev pub port_of : List ℕ → Option ℕ
port_of text = do
  port ← number_of text
  if nat_lt 0 port && nat_lt port 65536 then Some port else None

-- a host and a port, parted by the last colon
abbrev pub endpoint_of : (List ℕ → Option Address) → List ℕ → Option Endpoint
endpoint_of host_of text = if list_any (is_byte 58) text then (do
  address ← host_of (before_last (is_byte 58) text)
  port ← port_of (after_last (is_byte 58) text)
  Some (record { address = address; port = port })) else None

-- where a listener binds
unfoldable pub bind_of : List ℕ → Option Endpoint
bind_of text = endpoint_of bind_host_of text

-- where a server listens
unfoldable pub server_of : List ℕ → Option Endpoint
server_of text = endpoint_of host_of text

-- examples
network-whole : network_of (codes "10.0.0.1") ≡ Some (record { address = V4 (10 ∷ 0 ∷ 0 ∷ 1 ∷ []); length = 32 })
unfolding network_of address_of dotted_of number_of
network-whole = refl

network-host_bits : network_of (codes "10.0.0.1/8") ≡ Some (record { address = V4 (10 ∷ 0 ∷ 0 ∷ 1 ∷ []); length = 8 })
unfolding network_of address_of dotted_of number_of
network-host_bits = refl

network-too_long : network_of (codes "10.0.0.1/33") ≡ None
unfolding network_of address_of dotted_of number_of
network-too_long = refl

network-ipv6 : network_of (codes "::/0") ≡ Some (record { address = V6 (replicate 16 0); length = 0 })
unfolding network_of address_of dotted_of ipv6_of number_of
network-ipv6 = refl

bind-star : bind_of (codes "*:80") ≡ Some (record { address = V4 (0 ∷ 0 ∷ 0 ∷ 0 ∷ []); port = 80 })
unfolding bind_of dotted_of ipv6_of number_of
bind-star = refl

bind-empty : bind_of (codes ":0443") ≡ Some (record { address = V4 (0 ∷ 0 ∷ 0 ∷ 0 ∷ []); port = 443 })
unfolding bind_of dotted_of ipv6_of number_of
bind-empty = refl

bind-no_brackets : bind_of (codes "::1:80") ≡ None
unfolding bind_of dotted_of ipv6_of number_of
bind-no_brackets = refl

bind-brackets : bind_of (codes "[::]:80") ≡ Some (record { address = V6 (replicate 16 0); port = 80 })
unfolding bind_of dotted_of ipv6_of number_of
bind-brackets = refl

server-star : server_of (codes "*:80") ≡ None
unfolding server_of dotted_of ipv6_of number_of
server-star = refl

server-no_port : server_of (codes "10.0.0.1") ≡ None
unfolding server_of dotted_of ipv6_of number_of
server-no_port = refl

server-port_zero : server_of (codes "10.0.0.1:0") ≡ None
unfolding server_of dotted_of ipv6_of number_of
server-port_zero = refl
