-- The addresses of the standard library, as rules know them.
use Rattle.std.specs.Prelude.{◌≡◌, ℕ, Option, Some, None}
use Rattle.std.specs.declared.net.ip_addr.IpAddr.{IpAddr}
use Rattle.std.specs.declared.net.ip_addr.IpAddr.TheVariants as ips
use Rattle.std.specs.declared.net.socket_addr.SocketAddr.{SocketAddr}
use Rattle.std.specs.Net.Addr.{ipv4_octets, ipv6_octets, ipv6_segments, segments_of}
use Rattle.std.specs.Net.Socket.{socket_ip, socket_port, IsPlainSocket}
use Rattle.rule_addresses.specs.declared.address.Address.{Address}
use Rattle.rule_addresses.specs.declared.address.Address.TheVariants.{V4, V6}
use Rattle.rule_addresses.specs.declared.address.Endpoint.{Endpoint}
use Rattle.rule_eval.specs.declared.wants.Samples.{Samples}

-- its octets
abbrev pub address_of : IpAddr → Address
address_of (ips.V4 ip) = V4 (ipv4_octets ip)
address_of (ips.V6 ip) = V6 (ipv6_octets ip)

-- it has those octets; an IPv6 address has them in pairs
abbrev pub IsAddress : IpAddr → Address → Type 0
IsAddress (ips.V4 ip) (V4 bytes) = ipv4_octets ip ≡ bytes
IsAddress (ips.V6 ip) (V6 bytes) = ipv6_segments ip ≡ segments_of bytes
IsAddress ip address = ⊥

-- that is where a setup's server is
abbrev pub IsServer : Option Endpoint → SocketAddr → Type 0
IsServer None server = ⊥
IsServer (Some endpoint) server = IsAddress (socket_ip server) endpoint.address × IsPlainSocket server endpoint.port

-- where a connection comes from, and the port that it comes to
abbrev pub samples_of : SocketAddr → ℕ → Samples
samples_of peer port = record { src = address_of (socket_ip peer); src_port = socket_port peer; dst_port = port }
