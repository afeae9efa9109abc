-- The keys of a listing as sets of addresses, as nft and ipset take them.
use Rattle.std.specs.Prelude.{ℕ, Bool, false, not, ◌==◌, ◌&&◌, ◌||◌, ◌+◌, ◌/◌, nat_le, max, Option, None, Some, unwrap_or, List, [], ◌∷◌, ◌++◌, map, filter, length, codes, decimal, if◌then◌else◌}
use Rattle.std.specs.List.{flat_map, list_any}
use Rattle.std.specs.Char.{is_ascii_alphanumeric}
use Rattle.base_lines.specs.Parts.{parts, is_line_end}
use Rattle.stick_key.specs.AddressOf.{dotted_of, ipv6_of}
use Rattle.stickd_ctl.specs.Lines.{behind_prefix, is_row, key_of, value_of}
use Rattle.stickd_ctl.specs.declared.address_keys.Family.{Family}
use Rattle.stickd_ctl.specs.declared.address_keys.Family.TheVariants.{V4, V6}
use Rattle.stickd_ctl.specs.declared.address_sets.Tool.{Tool}
use Rattle.stickd_ctl.specs.declared.address_sets.Tool.TheVariants.{Nft, Ipset}

-- ---- keys

-- an IPv4 address stands behind ::ffff: in a table of IPv6 keys
abbrev pub unmapped : List ℕ → List ℕ
unmapped key = unwrap_or (behind_prefix (codes "::ffff:") key) key

abbrev pub is_some_byte : ℕ → Bool
is_some_byte byte = not (byte == 0)

-- an address that a host can have: not all of its bytes are 0
abbrev pub is_host : Option (List ℕ) → Bool
is_host None = false
is_host (Some address) = list_any is_some_byte address

abbrev pub is_ipv4 : List ℕ → Bool
is_ipv4 key = is_host (dotted_of (unmapped key))

abbrev pub is_address : Family → List ℕ → Bool
is_address V4 key = is_ipv4 key
is_address V6 key = not (is_ipv4 key) && is_host (ipv6_of key)

abbrev pub address_text : Family → List ℕ → List ℕ
address_text V4 key = unmapped key
address_text V6 key = key

-- the lines of entries whose keys are addresses of a family, and of those whose keys are of neither
abbrev pub is_member : Family → List ℕ → Bool
is_member family line = is_row line && is_address family (key_of line)

abbrev pub is_left_out : List ℕ → Bool
is_left_out line = is_row line && not (is_member V4 line) && not (is_member V6 line)

abbrev pub left_out : List ℕ → List (List ℕ)
left_out listing = filter is_left_out (parts is_line_end listing)

-- ---- names of sets

-- a letter, a digit, a - or a . stands in the name of a set, and an _ for any other byte
abbrev pub safe_byte : ℕ → ℕ
safe_byte byte = if is_ascii_alphanumeric byte || (byte == 45) || (byte == 46) then byte else 95

abbrev pub prefix_of : Family → List ℕ
prefix_of V4 = codes "v4_"
prefix_of V6 = codes "v6_"

abbrev pub set_name : Family → List ℕ → List ℕ
set_name family table = prefix_of family ++ map safe_byte table

-- the name, between what stands before it and behind it
abbrev pub named : List ℕ → Family → List ℕ → List ℕ → List ℕ
named before family table behind = before ++ set_name family table ++ behind

-- the most bytes that such a name may have
abbrev pub longest_name : Tool → ℕ
longest_name Nft = 255
longest_name Ipset = 31

abbrev pub can_name : Tool → List ℕ → Bool
can_name tool table = nat_le (length table + 3) (longest_name tool)

-- ---- a set

-- what makes it where there is none
abbrev pub make_words : Tool → List ℕ
make_words Nft = codes "add set inet stickd "
make_words Ipset = codes "create -exist "

-- elements have an end of their own, or none; an ipset has room for all that a table can have
abbrev pub kind_words : Tool → Family → List ℕ
kind_words Nft V4 = codes " { type ipv4_addr; flags timeout; }\n"
kind_words Nft V6 = codes " { type ipv6_addr; flags timeout; }\n"
kind_words Ipset V4 = codes " hash:ip family inet timeout 0 maxelem 4294967295\n"
kind_words Ipset V6 = codes " hash:ip family inet6 timeout 0 maxelem 4294967295\n"

-- what empties it
abbrev pub flush_words : Tool → List ℕ
flush_words Nft = codes "flush set inet stickd "
flush_words Ipset = codes "flush "

abbrev pub made_text : Tool → Family → List ℕ → List ℕ
made_text tool family table =
    named (make_words tool) family table (kind_words tool family) ++ named (flush_words tool) family table (codes "\n")

-- ---- an element

-- the ms that an entry has left, 0 where none are counted
abbrev pub left_of : List ℕ → ℕ
left_of line = unwrap_or (value_of (codes "exp") line) 0

-- whole seconds, at least one
abbrev pub seconds_of : ℕ → ℕ
seconds_of left = max (left / 1000) 1

abbrev pub unit_of : Tool → List ℕ
unit_of Nft = codes "s"
unit_of Ipset = []

-- where an entry has no end, neither has its element
abbrev pub timeout_text : Tool → ℕ → List ℕ
timeout_text tool left = if left == 0 then [] else codes " timeout " ++ decimal (seconds_of left) ++ unit_of tool

abbrev pub add_words : Tool → List ℕ
add_words Nft = codes "add element inet stickd "
add_words Ipset = codes "add -exist "

abbrev pub before_element : Tool → List ℕ
before_element Nft = codes " { "
before_element Ipset = codes " "

abbrev pub behind_element : Tool → List ℕ
behind_element Nft = codes " }\n"
behind_element Ipset = codes "\n"

abbrev pub element_text : Tool → Family → List ℕ → List ℕ → List ℕ
element_text tool family table line =
    named (add_words tool) family table (before_element tool)
    ++ address_text family (key_of line) ++ timeout_text tool (left_of line) ++ behind_element tool

-- ---- all of it

abbrev pub elements_of : Tool → Family → List ℕ → List ℕ → List ℕ
elements_of tool family table listing = flat_map (element_text tool family table) (filter (is_member family) (parts is_line_end listing))

-- a set that was emptied, and its elements
abbrev pub set_text : Tool → Family → List ℕ → List ℕ → List ℕ
set_text tool family table listing = made_text tool family table ++ elements_of tool family table listing
