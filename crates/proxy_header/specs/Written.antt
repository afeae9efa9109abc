-- Headers that are written.
use Rattle.std.specs.Prelude.{ℕ, ◌++◌, List, [], ◌∷◌, codes, decimal, Option, Some, None}
use Rattle.std.specs.Int.{to_be_bytes, w16}
use Rattle.std.specs.List.{join_with_byte}
use Rattle.stick_key.specs.Dotted.{dotted}
use Rattle.stick_key.specs.Ipv6Printed.{ipv6}
use Rattle.rule_addresses.specs.declared.address.Address.{Address}
use Rattle.rule_addresses.specs.declared.address.Address.TheVariants.{V4, V6}
use Rattle.proxy_header.specs.declared.ends.Ends.{Ends}
use Rattle.proxy_header.specs.declared.family.Family.{Family}
use Rattle.proxy_header.specs.declared.family.Family.TheVariants.{Ipv4, Ipv6}
use Rattle.proxy_header.specs.declared.writing.Version.{Version}
use Rattle.proxy_header.specs.declared.writing.Version.TheVariants.{One, Two}
use Rattle.proxy_header.specs.Binary.{signature}

-- the family of two addresses, where they are of one; an IPv6 address that stands for an IPv4 one is an IPv6 address
abbrev pub common_family : Address → Address → Option Family
common_family (V4 source) (V4 destination) = Some Ipv4
common_family (V6 source) (V6 destination) = Some Ipv6
common_family (V4 source) (V6 destination) = None
common_family (V6 source) (V4 destination) = None

abbrev pub family_of : Ends → Option Family
family_of ends = common_family ends.source ends.destination

-- the text of an address, and its bytes
abbrev pub text_of : Address → List ℕ
text_of (V4 bytes) = dotted bytes
text_of (V6 bytes) = ipv6 bytes

abbrev pub bytes_of : Address → List ℕ
bytes_of (V4 bytes) = bytes
bytes_of (V6 bytes) = bytes

-- the four words of ends: both addresses and both ports
abbrev pub words_of : Ends → List (List ℕ)
words_of ends = text_of ends.source ∷ text_of ends.destination ∷ decimal ends.source_port ∷ decimal ends.destination_port ∷ []

-- a line of words, parted by single spaces
abbrev pub spaced : List (List ℕ) → List ℕ
spaced words = join_with_byte 32 words

abbrev pub line : List (List ℕ) → List ℕ
line words = spaced words ++ codes "\r\n"

-- a header of version 1
abbrev pub line_in : Option Family → Ends → List ℕ
line_in (Some Ipv4) ends = line (codes "PROXY" ∷ codes "TCP4" ∷ words_of ends)
line_in (Some Ipv6) ends = line (codes "PROXY" ∷ codes "TCP6" ∷ words_of ends)
line_in None ends = line (codes "PROXY" ∷ codes "UNKNOWN" ∷ [])

abbrev pub written_line : Ends → List ℕ
written_line ends = line_in (family_of ends) ends

-- the bytes of ends: both addresses and both ports
abbrev pub block_of : Ends → List ℕ
block_of ends = bytes_of ends.source ++ (bytes_of ends.destination ++ (to_be_bytes w16 ends.source_port ++ to_be_bytes w16 ends.destination_port))

-- a header of version 2: the signature, the command PROXY, a family and a protocol, how many bytes follow, and these
abbrev pub binary_in : Option Family → Ends → List ℕ
binary_in (Some Ipv4) ends = signature ++ (0x21 ∷ 0x11 ∷ 0 ∷ 12 ∷ block_of ends)
binary_in (Some Ipv6) ends = signature ++ (0x21 ∷ 0x21 ∷ 0 ∷ 36 ∷ block_of ends)
binary_in None ends = signature ++ (0x21 ∷ 0x00 ∷ 0 ∷ 0 ∷ [])

abbrev pub written_binary : Ends → List ℕ
written_binary ends = binary_in (family_of ends) ends

-- the header that tells these ends; ends of two families are told by none
abbrev pub written : Version → Ends → List ℕ
written One ends = written_line ends
written Two ends = written_binary ends
