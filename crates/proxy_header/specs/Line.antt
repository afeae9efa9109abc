-- Headers of version 1 of the PROXY protocol (section 2.1), which are lines of text.
use Rattle.std.specs.Prelude.{ℕ, ◌+◌, ◌==◌, ◌&&◌, nat_eq, nat_lt, List, [], ◌∷◌, length, slice_index, take, codes, Option, Some, None, option_map, if◌then◌else◌}
use Rattle.std.specs.List.{starts_with}
use Rattle.std.specs.Str.{bytes_eq}
use Rattle.base_lines.specs.Number.{number_of}
use Rattle.base_lines.specs.Parts.{parts, is_byte}
use Rattle.stick_key.specs.AddressOf.{dotted_of, ipv6_of, ◌>>=◌}
use Rattle.rule_addresses.specs.declared.address.Address.{Address}
use Rattle.rule_addresses.specs.declared.address.Address.TheVariants.{V4, V6}
use Rattle.proxy_header.specs.declared.ends.Ends.{Ends}
use Rattle.proxy_header.specs.declared.ends.Heard.{Heard}
use Rattle.proxy_header.specs.declared.ends.Heard.TheVariants.{Unfinished, Wrong, Told}
use Rattle.proxy_header.specs.declared.family.Family.{Family}
use Rattle.proxy_header.specs.declared.family.Family.TheVariants.{Ipv4, Ipv6}

-- what stands before the first CR LF
abbrev pub first_line : List ℕ → Option (List ℕ)
first_line [] = None
first_line (byte ∷ bytes) =
    if starts_with nat_eq (byte ∷ bytes) (codes "\r\n") then Some [] else option_map (λ line. byte ∷ line) (first_line bytes)

-- 0 to 65535, without leading zeros
abbrev pub port_of : List ℕ → Option ℕ
port_of text = if nat_lt 1 (length text) && (slice_index text 0 == 48) then None else do
  port ← number_of text
  if nat_lt port 65536 then Some port else None

-- an address of the family
abbrev pub address_in : Family → List ℕ → Option Address
address_in Ipv4 text = option_map V4 (dotted_of text)
address_in Ipv6 text = option_map V6 (ipv6_of text)

-- four words: the source's address, the destination's, and their ports
abbrev pub ends_of : Family → List (List ℕ) → Option Ends
ends_of family (source ∷ destination ∷ source_port ∷ destination_port ∷ []) = do
  source ← address_in family source
  destination ← address_in family destination
  source_port ← port_of source_port
  destination_port ← port_of destination_port
  Some (record { source = source; destination = destination; source_port = source_port; destination_port = destination_port })
ends_of family words = None

-- a header of so many bytes tells these ends, or is wrong where there are none
abbrev pub told_ends : ℕ → Option Ends → Heard
told_ends length None = Wrong
told_ends length (Some ends) = Told length (Some ends)

-- what a header of so many bytes says by its words: PROXY, a protocol, and what belongs to that
abbrev pub told_words : ℕ → List (List ℕ) → Heard
told_words length (proxy ∷ protocol ∷ words) =
    if bytes_eq protocol (codes "UNKNOWN") then Told length None
    else if bytes_eq protocol (codes "TCP4") then told_ends length (ends_of Ipv4 words)
    else if bytes_eq protocol (codes "TCP6") then told_ends length (ends_of Ipv6 words)
    else Wrong
told_words length words = Wrong

-- what a line says, if there is one; where there is none yet, it may come as long as there are fewer than 107 bytes
abbrev pub told_line : ℕ → Option (List ℕ) → Heard
told_line count None = if nat_lt count 107 then Unfinished else Wrong
told_line count (Some line) = told_words (length line + 2) (parts (is_byte 32) line)

-- what bytes say that begin with PROXY and a space
unfoldable pub heard_line : List ℕ → Heard
heard_line bytes = told_line (length bytes) (first_line (take 107 bytes))
