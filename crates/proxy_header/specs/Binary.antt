-- Headers of version 2 of the PROXY protocol (section 2.2), which are binary.
use Rattle.std.specs.Prelude.{ℕ, Bool, ◌+◌, ◌*◌, ◌/◌, ◌%◌, ◌==◌, ◌&&◌, ◌||◌, not, nat_lt, List, [], ◌∷◌, length, slice_index, take, drop, Some, None, if◌then◌else◌}
use Rattle.rule_addresses.specs.declared.address.Address.{Address}
use Rattle.rule_addresses.specs.declared.address.Address.TheVariants.{V4, V6}
use Rattle.proxy_header.specs.declared.ends.Ends.{Ends}
use Rattle.proxy_header.specs.declared.ends.Heard.{Heard}
use Rattle.proxy_header.specs.declared.ends.Heard.TheVariants.{Unfinished, Wrong, Told}

-- the twelve bytes that such a header begins with: CR LF CR LF, zero, CR LF, QUIT, LF
abbrev pub signature : List ℕ
signature = 0x0d ∷ 0x0a ∷ 0x0d ∷ 0x0a ∷ 0x00 ∷ 0x0d ∷ 0x0a ∷ 0x51 ∷ 0x55 ∷ 0x49 ∷ 0x54 ∷ 0x0a ∷ []

-- the commands of version 2: LOCAL, by which a proxy speaks for itself, and PROXY
abbrev pub is_command : ℕ → Bool
is_command byte = (byte == 0x20) || (byte == 0x21)

-- a family of addresses that there is (none, IPv4, IPv6, UNIX), and a transport protocol (none, a stream, datagrams)
abbrev pub is_kind : ℕ → Bool
is_kind byte = nat_lt (byte / 16) 4 && nat_lt (byte % 16) 3

-- the number in two bytes at a place, the higher one first
abbrev pub number_at : List ℕ → ℕ → ℕ
number_at bytes place = 256 * slice_index bytes place + slice_index bytes (place + 1)

-- the IPv4 address, and the IPv6 address, at a place
abbrev pub ipv4_at : List ℕ → ℕ → Address
ipv4_at bytes place = V4 (take 4 (drop place bytes))

abbrev pub ipv6_at : List ℕ → ℕ → Address
ipv6_at bytes place = V6 (take 16 (drop place bytes))

-- the ends behind the fixed part: the source's address, the destination's, and their ports
abbrev pub ipv4_ends : List ℕ → Ends
ipv4_ends bytes = record {
  source = ipv4_at bytes 16;
  destination = ipv4_at bytes 20;
  source_port = number_at bytes 24;
  destination_port = number_at bytes 26;
}

abbrev pub ipv6_ends : List ℕ → Ends
ipv6_ends bytes = record {
  source = ipv6_at bytes 16;
  destination = ipv6_at bytes 32;
  source_port = number_at bytes 48;
  destination_port = number_at bytes 50;
}

-- what a whole header of so many bytes says: the command PROXY over TCP tells ends; all else tells none
abbrev pub heard_whole : List ℕ → ℕ → Heard
heard_whole bytes whole =
    if (slice_index bytes 12 == 0x21) && (slice_index bytes 13 == 0x11) then (if nat_lt whole 28 then Wrong else Told whole (Some (ipv4_ends bytes)))
    else if (slice_index bytes 12 == 0x21) && (slice_index bytes 13 == 0x21) then (if nat_lt whole 52 then Wrong else Told whole (Some (ipv6_ends bytes)))
    else Told whole None

-- how many bytes the header has: the fixed part, and as many as its last two bytes say
abbrev pub whole_length : List ℕ → ℕ
whole_length bytes = 16 + number_at bytes 14

-- what bytes say that begin with the signature. A wrong command, kind or length is told as soon as it is there
unfoldable pub heard_binary : List ℕ → Heard
heard_binary bytes =
    if nat_lt 12 (length bytes) && not (is_command (slice_index bytes 12)) then Wrong
    else if nat_lt 13 (length bytes) && not (is_kind (slice_index bytes 13)) then Wrong
    else if nat_lt (length bytes) 16 then Unfinished
    else if nat_lt 4096 (whole_length bytes) then Wrong
    else if nat_lt (length bytes) (whole_length bytes) then Unfinished
    else heard_whole bytes (whole_length bytes)
