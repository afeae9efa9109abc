-- What the definitions come to.
use Rattle.std.specs.Prelude.{true, false, ◌≡◌, ℕ, ◌-◌, ◌<◌, ◌≤◌, ◌^◌, ◌↔◌, List, ◌++◌, length, Some}
use Rattle.std.specs.Int.{bit_at, from_be_bytes, w32, w128}
use Rattle.stick_key.specs.Dotted.{AreBytes}
use Rattle.stick_key.specs.Ipv6Printed.{is_mapped, mapped_prefix}
use Rattle.rule_addresses.specs.Addresses.{bind_of, bits_of, network_of, server_of}
use Rattle.rule_addresses.specs.Matching.{agree, holds}
use Rattle.rule_addresses.specs.Prefix.{first_bits, masked, whole}
use Rattle.rule_addresses.specs.declared.address.Address.{Address}
use Rattle.rule_addresses.specs.declared.address.Address.TheVariants.{V4, V6}
use Rattle.rule_addresses.specs.declared.address.Endpoint.{Endpoint}
use Rattle.rule_addresses.specs.declared.address.Network.{Network}
use Rattle.rule_addresses.specs.declared.masking.Prefixes.{Prefixes}

-- the bits that are compared are the first n, counted from the highest
abbrev pub ComparesFirstBits : Type 0
ComparesFirstBits = (bits n a b : ℕ) → a < 2 ^ bits → b < 2 ^ bits →
    (agree bits n a b ≡ true) ↔ ((k : ℕ) → k < n → k < bits → bit_at a (bits - 1 - k) ≡ bit_at b (bits - 1 - k))

-- a network that is read compares no more bits than its address has
abbrev pub ComparesBitsOfAddress : Type 0
ComparesBitsOfAddress = (text : List ℕ) (network : Network) → network_of text ≡ Some network → network.length ≤ bits_of network.address

-- a network holds its own address
abbrev pub HoldsItself : Type 0
HoldsItself = (network : Network) → holds network network.address ≡ true

-- where a text says where a server listens, a listener binds there too
abbrev pub ServersReadAsBinds : Type 0
ServersReadAsBinds = (text : List ℕ) (endpoint : Endpoint) → server_of text ≡ Some endpoint → bind_of text ≡ Some endpoint

-- ports are from 1 to 65535
abbrev pub PortsAreSome : Type 0
PortsAreSome = (text : List ℕ) (endpoint : Endpoint) → bind_of text ≡ Some endpoint → (1 ≤ endpoint.port) × (endpoint.port < 2 ^ 16)

-- an address has its four or its sixteen bytes
abbrev pub IsAddress : Address → Type 0
IsAddress (V4 bytes) = AreBytes bytes × (length bytes ≡ 4)
IsAddress (V6 bytes) = AreBytes bytes × (length bytes ≡ 16)

-- masking twice is masking once
abbrev pub MasksOnce : Type 0
MasksOnce = (prefixes : Prefixes) (address : Address) → masked prefixes (masked prefixes address) ≡ masked prefixes address

-- where 32 bits of IPv4 and 128 of IPv6 are kept, every address is left whole
abbrev pub LeavesWhole : Type 0
LeavesWhole = (address : Address) → IsAddress address → masked whole address ≡ address

-- two IPv4 addresses become one exactly where they agree in the bits that are kept
abbrev pub JoinsIpv4 : Type 0
JoinsIpv4 = (prefixes : Prefixes) (a b : List ℕ) → IsAddress (V4 a) → IsAddress (V4 b) →
    (masked prefixes (V4 a) ≡ masked prefixes (V4 b)) ↔ (agree 32 prefixes.ipv4 (from_be_bytes w32 a) (from_be_bytes w32 b) ≡ true)

-- and so do two IPv6 addresses that stand for no IPv4 ones
abbrev pub JoinsIpv6 : Type 0
JoinsIpv6 = (prefixes : Prefixes) (a b : List ℕ) → IsAddress (V6 a) → IsAddress (V6 b) → is_mapped a ≡ false → is_mapped b ≡ false →
    (masked prefixes (V6 a) ≡ masked prefixes (V6 b)) ↔ (agree 128 prefixes.ipv6 (from_be_bytes w128 a) (from_be_bytes w128 b) ≡ true)

-- one that stands for an IPv4 address becomes the one that stands for what that becomes
abbrev pub MasksMapped : Type 0
MasksMapped = (prefixes : Prefixes) (bytes : List ℕ) → masked prefixes (V6 (mapped_prefix ++ bytes)) ≡ V6 (mapped_prefix ++ first_bits prefixes.ipv4 bytes)
