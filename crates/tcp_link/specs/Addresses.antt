-- An address as the system reads it (ip(7), ipv6(7)).
use Rattle.std.specs.Prelude.{ℕ, ◌-◌, List, ◌++◌, length, replicate}
use Rattle.std.specs.Int.{w16, w32, to_le_bytes, to_be_bytes}
use Rattle.std.specs.Net.Addr.{ipv4_octets, ipv6_octets}
use Rattle.std.specs.Net.Socket.{v4_ip, v4_port, v6_ip, v6_port, v6_flowinfo, v6_scope_id}
use Rattle.std.specs.declared.net.socket_addr.SocketAddr.{SocketAddr}
use Rattle.std.specs.declared.net.socket_addr.SocketAddrV6.{SocketAddrV6}
use Rattle.std.specs.declared.net.socket_addr.SocketAddr.TheVariants.{V4, V6}

-- the number of an address's family, AF_INET or AF_INET6
abbrev pub family : SocketAddr → ℕ
family (V4 address) = 2
family (V6 address) = 10

-- what stands before an IPv6 address: the family in the machine's order, the port in the network's, and the flow
abbrev pub head_v6 : SocketAddrV6 → List ℕ
head_v6 address = to_le_bytes w16 10 ++ (to_be_bytes w16 (v6_port address) ++ to_le_bytes w32 (v6_flowinfo address))

-- its fields: those before the address, the address, and behind that of IPv6 the scope
abbrev pub fields : SocketAddr → List ℕ
fields (V4 address) = to_le_bytes w16 2 ++ (to_be_bytes w16 (v4_port address) ++ ipv4_octets (v4_ip address))
fields (V6 address) = head_v6 address ++ (ipv6_octets (v6_ip address) ++ to_le_bytes w32 (v6_scope_id address))

-- how many bytes of it the system reads: those of IPv4 end in eight zeros
abbrev pub size : SocketAddr → ℕ
size (V4 address) = 16
size (V6 address) = 28

-- the fields, and zeros to the length of every address
abbrev pub padded : List ℕ → List ℕ
padded fields = fields ++ replicate (128 - length fields) 0

abbrev pub socket_address : SocketAddr → List ℕ × ℕ
socket_address address = (padded (fields address), size address)
