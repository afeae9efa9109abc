-- Headers from outside, and what is made of them.
use Rattle.std.specs.Prelude.{refl, ◌≡◌, ℕ, ◌/◌, ◌%◌, ◌++◌, List, [], ◌∷◌, map, take, codes, replicate, Some, None}
use Rattle.std.specs.Fmt.{digits}
use Rattle.base_lines.specs.Number.{number_of}
use Rattle.stick_key.specs.AddressOf.{dotted_of, ipv6_of}
use Rattle.stick_key.specs.Ipv6Printed.{mapped_prefix}
use Rattle.rule_addresses.specs.declared.address.Address.TheVariants.{V4, V6}
use Rattle.proxy_header.specs.declared.ends.Ends.{Ends}
use Rattle.proxy_header.specs.declared.ends.Heard.{Heard}
use Rattle.proxy_header.specs.declared.ends.Heard.TheVariants.{Unfinished, Wrong, Told}
use Rattle.proxy_header.specs.declared.writing.Version.TheVariants.{One, Two}
use Rattle.proxy_header.specs.Binary.{heard_binary, signature}
use Rattle.proxy_header.specs.Header.{heard}
use Rattle.proxy_header.specs.Line.{heard_line}
use Rattle.proxy_header.specs.Written.{written}

-- 203.0.113.9 and 192.0.2.1, 2001:db8::9 and 2001:db8::1, with ports 1234 and 80: as bytes, and as ends
abbrev client4 : List ℕ
client4 = 203 ∷ 0 ∷ 113 ∷ 9 ∷ []

abbrev server4 : List ℕ
server4 = 192 ∷ 0 ∷ 2 ∷ 1 ∷ []

abbrev ports : List ℕ
ports = 4 ∷ 210 ∷ 0 ∷ 80 ∷ []

-- an address of 2001:db8::/120
abbrev documented : ℕ → List ℕ
documented last = 0x20 ∷ 0x01 ∷ 0x0d ∷ 0xb8 ∷ (replicate 11 0 ++ last ∷ [])

abbrev block4 : List ℕ
block4 = client4 ++ (server4 ++ ports)

abbrev block6 : List ℕ
block6 = documented 9 ++ (documented 1 ++ ports)

abbrev mapped_block : List ℕ
mapped_block = mapped_prefix ++ (client4 ++ (mapped_prefix ++ (server4 ++ ports)))

abbrev ends4 : Ends
ends4 = record { source = V4 client4; destination = V4 server4; source_port = 1234; destination_port = 80 }

abbrev ends6 : Ends
ends6 = record { source = V6 (documented 9); destination = V6 (documented 1); source_port = 1234; destination_port = 80 }

abbrev mapped_ends : Ends
mapped_ends = record { source = V6 (mapped_prefix ++ client4); destination = V6 (mapped_prefix ++ server4); source_port = 1234; destination_port = 80 }

-- lines that were sent to HAProxy 2.6.12 with accept-proxy; where it makes something else of one, that is said
abbrev lines : List (List ℕ × Heard)
lines =
    -- v1 TCP4
    (codes "PROXY TCP4 203.0.113.9 192.0.2.1 1234 80\r\npayload", Told 42 (Some ends4))
    -- v1 TCP6
    ∷ (codes "PROXY TCP6 2001:db8::9 2001:db8::1 1234 80\r\npayload", Told 44 (Some ends6))
    -- v1 TCP6 mapped
    ∷ (codes "PROXY TCP6 ::ffff:203.0.113.9 ::ffff:192.0.2.1 1234 80\r\npayload", Told 56 (Some mapped_ends))
    -- v1 UNKNOWN
    ∷ (codes "PROXY UNKNOWN\r\npayload", Told 15 None)
    -- v1 UNKNOWN junk (HAProxy 2.6 resets it)
    ∷ (codes "PROXY UNKNOWN some thing\r\npayload", Told 26 None)
    -- v1 TCP4 with v6
    ∷ (codes "PROXY TCP4 2001:db8::9 2001:db8::1 1 2\r\npayload", Wrong)
    -- v1 zero before (HAProxy 2.6 reads past the zeros)
    ∷ (codes "PROXY TCP4 203.0.113.009 192.0.2.1 1234 80\r\npayload", Wrong)
    -- v1 port 65536 (HAProxy 2.6 takes it as 0)
    ∷ (codes "PROXY TCP4 203.0.113.9 192.0.2.1 65536 80\r\npayload", Wrong)
    -- v1 port 0080 (HAProxy 2.6 reads past the zeros)
    ∷ (codes "PROXY TCP4 203.0.113.9 192.0.2.1 0080 80\r\npayload", Wrong)
    -- v1 LF alone (HAProxy 2.6 resets it)
    ∷ (codes "PROXY TCP4 203.0.113.9 192.0.2.1 1234 80\npayload", Unfinished)
    -- v1 two spaces
    ∷ (codes "PROXY TCP4  203.0.113.9 192.0.2.1 1234 80\r\npayload", Wrong)
    -- v1 trailing space
    ∷ (codes "PROXY TCP4 203.0.113.9 192.0.2.1 1234 80 \r\npayload", Wrong)
    -- v1 too long
    ∷ (codes "PROXY UNKNOWN " ++ (replicate 200 120 ++ codes "\r\npayload"), Wrong)
    -- v1 107 (HAProxy 2.6 resets it)
    ∷ (codes "PROXY UNKNOWN " ++ (replicate 91 120 ++ codes "\r\npayload"), Told 107 None)
    -- v1 108
    ∷ (codes "PROXY UNKNOWN " ++ (replicate 92 120 ++ codes "\r\npayload"), Wrong)
    -- v1 UNIX
    ∷ (codes "PROXY UNIX a b\r\npayload", Wrong)
    -- v1 lower
    ∷ (codes "proxy tcp4 203.0.113.9 192.0.2.1 1234 80\r\npayload", Wrong)
    -- plain
    ∷ (codes "GET / HTTP/1.0\r\n\r\npayload", Wrong)
    -- nothing, and empty then closed
    ∷ (codes "", Unfinished)
    -- half v1
    ∷ (codes "PROXY TCP4 203.0", Unfinished)
    ∷ []

lines-heard : map (λ row. heard row.0) lines ≡ map (λ row. row.1) lines
unfolding heard heard_line dotted_of ipv6_of number_of
lines-heard = refl

-- a header of version 2: a command, a kind, and how many bytes follow
abbrev binary : ℕ → ℕ → ℕ → List ℕ → List ℕ
binary command kind count block = signature ++ (command ∷ kind ∷ count / 256 ∷ count % 256 ∷ block)

-- binary headers that were sent to it
abbrev binaries : List (List ℕ × Heard)
binaries =
    -- v2 TCP4
    (binary 0x21 0x11 12 (block4 ++ codes "payload"), Told 28 (Some ends4))
    -- v2 TCP6
    ∷ (binary 0x21 0x21 36 (block6 ++ codes "payload"), Told 52 (Some ends6))
    -- v2 mapped
    ∷ (binary 0x21 0x21 36 (mapped_block ++ codes "payload"), Told 52 (Some mapped_ends))
    -- v2 LOCAL
    ∷ (binary 0x20 0x00 0 (codes "payload"), Told 16 None)
    -- v2 LOCAL with addr
    ∷ (binary 0x20 0x11 12 (block4 ++ codes "payload"), Told 28 None)
    -- v2 UNSPEC (HAProxy 2.6 resets it)
    ∷ (binary 0x21 0x00 0 (codes "payload"), Told 16 None)
    -- v2 UDP4 (HAProxy 2.6 resets it)
    ∷ (binary 0x21 0x12 12 (block4 ++ codes "payload"), Told 28 None)
    -- v2 UNIX (HAProxy 2.6 resets it)
    ∷ (binary 0x21 0x31 216 (codes "/a" ++ (replicate 214 0 ++ codes "payload")), Told 232 None)
    -- v2 family 4
    ∷ (binary 0x21 0x41 12 (block4 ++ codes "payload"), Wrong)
    -- v2 cmd 2
    ∷ (binary 0x22 0x11 12 (block4 ++ codes "payload"), Wrong)
    -- v2 version 1
    ∷ (binary 0x11 0x11 12 (block4 ++ codes "payload"), Wrong)
    -- v2 short addr
    ∷ (binary 0x21 0x11 8 (take 8 block4 ++ codes "payload"), Wrong)
    -- v2 tlv noop
    ∷ (binary 0x21 0x11 18 (block4 ++ ((4 ∷ 0 ∷ 3 ∷ codes "abc") ++ codes "payload")), Told 34 (Some ends4))
    -- v2 tlv beyond (HAProxy 2.6 resets it)
    ∷ (binary 0x21 0x11 18 (block4 ++ ((4 ∷ 0 ∷ 80 ∷ codes "abc") ++ codes "payload")), Told 34 (Some ends4))
    -- v2 tlv 2 bytes (HAProxy 2.6 resets it)
    ∷ (binary 0x21 0x11 14 (block4 ++ ((4 ∷ 0 ∷ []) ++ codes "payload")), Told 30 (Some ends4))
    -- v2 bad crc (HAProxy 2.6 resets it)
    ∷ (binary 0x21 0x11 19 (block4 ++ ((3 ∷ 0 ∷ 4 ∷ codes "abcd") ++ codes "payload")), Told 35 (Some ends4))
    -- v2 tlv 2000
    ∷ (binary 0x21 0x11 2015 (block4 ++ ((4 ∷ 7 ∷ 208 ∷ replicate 2000 120) ++ codes "payload")), Told 2031 (Some ends4))
    -- v2 tlv 20000
    ∷ (binary 0x21 0x11 20015 (block4 ++ ((4 ∷ 78 ∷ 32 ∷ replicate 20000 120) ++ codes "payload")), Wrong)
    ∷ []

binaries-heard : map (λ row. heard row.0) binaries ≡ map (λ row. row.1) binaries
unfolding heard heard_binary
binaries-heard = refl

-- the examples of the specification (section 2.1): the longest lines, and a request behind a line
abbrev last4 : Ends
last4 = record { source = V4 (replicate 4 255); destination = V4 (replicate 4 255); source_port = 65535; destination_port = 65535 }

abbrev last6 : Ends
last6 = record { source = V6 (replicate 16 255); destination = V6 (replicate 16 255); source_port = 65535; destination_port = 65535 }

abbrev https_ends : Ends
https_ends = record { source = V4 (192 ∷ 168 ∷ 0 ∷ 1 ∷ []); destination = V4 (192 ∷ 168 ∷ 0 ∷ 11 ∷ []); source_port = 56324; destination_port = 443 }

abbrev examples : List (List ℕ × Heard)
examples =
    (codes "PROXY TCP4 255.255.255.255 255.255.255.255 65535 65535\r\n", Told 56 (Some last4))
    ∷ (codes "PROXY TCP6 ffff:ffff:ffff:ffff:ffff:ffff:ffff:ffff ffff:ffff:ffff:ffff:ffff:ffff:ffff:ffff 65535 65535\r\n", Told 104 (Some last6))
    ∷ (codes "PROXY UNKNOWN\r\n", Told 15 None)
    ∷ (codes "PROXY UNKNOWN ffff:ffff:ffff:ffff:ffff:ffff:ffff:ffff ffff:ffff:ffff:ffff:ffff:ffff:ffff:ffff 65535 65535\r\n", Told 107 None)
    ∷ (codes "PROXY TCP4 192.168.0.1 192.168.0.11 56324 443\r\nGET / HTTP/1.1\r\nHost: 192.168.0.11\r\n\r\n", Told 47 (Some https_ends))
    ∷ []

examples-heard : map (λ row. heard row.0) examples ≡ map (λ row. row.1) examples
unfolding heard heard_line dotted_of ipv6_of number_of
examples-heard = refl

-- what HAProxy 2.6.12 told a server of a connection from 127.0.0.1, of one to an IPv6 listener, and of one from ::1
abbrev loopback4 : List ℕ
loopback4 = 127 ∷ 0 ∷ 0 ∷ 1 ∷ []

abbrev loopback6 : List ℕ
loopback6 = replicate 15 0 ++ 1 ∷ []

told-binary : written Two (record { source = V4 loopback4; destination = V4 loopback4; source_port = 38928; destination_port = 21182 })
    ≡ 0x0d ∷ 0x0a ∷ 0x0d ∷ 0x0a ∷ 0x00 ∷ 0x0d ∷ 0x0a ∷ 0x51 ∷ 0x55 ∷ 0x49 ∷ 0x54 ∷ 0x0a ∷ 0x21 ∷ 0x11 ∷ 0x00 ∷ 0x0c ∷ 0x7f ∷ 0x00 ∷ 0x00 ∷ 0x01 ∷ 0x7f ∷ 0x00 ∷ 0x00 ∷ 0x01 ∷ 0x98 ∷ 0x10 ∷ 0x52 ∷ 0xbe ∷ []
told-binary = refl

told-mapped : written One (record { source = V6 (mapped_prefix ++ loopback4); destination = V6 (mapped_prefix ++ loopback4); source_port = 33348; destination_port = 21181 })
    ≡ codes "PROXY TCP6 ::ffff:127.0.0.1 ::ffff:127.0.0.1 33348 21181\r\n"
unfolding digits
told-mapped = refl

told-ipv6 : written One (record { source = V6 loopback6; destination = V6 loopback6; source_port = 48192; destination_port = 21181 })
    ≡ codes "PROXY TCP6 ::1 ::1 48192 21181\r\n"
unfolding digits
told-ipv6 = refl

told-ipv4 : written One ends4 ≡ codes "PROXY TCP4 203.0.113.9 192.0.2.1 1234 80\r\n"
unfolding digits
told-ipv4 = refl
