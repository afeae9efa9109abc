-- What a server is told of its client before anything else.
use Rattle.std.specs.Prelude.{◌≡◌, ℕ, List, [], Option, Some, None}
use Rattle.std.specs.declared.net.socket_addr.SocketAddr.{SocketAddr}
use Rattle.std.specs.Net.Socket.{socket_ip, socket_port}
use Rattle.proxy_header.specs.declared.ends.Ends.{Ends}
use Rattle.proxy_header.specs.declared.writing.Version.{Version}
use Rattle.proxy_header.specs.Written.{written}
use Rattle.tcp_relay.specs.Addresses.{address_of}

-- the ends of a connection that comes from a peer to a place here
abbrev pub ends_of : SocketAddr → SocketAddr → Ends
ends_of peer here = record {
  source = address_of (socket_ip peer);
  destination = address_of (socket_ip here);
  source_port = socket_port peer;
  destination_port = socket_port here;
}

-- the header of this version, of the ends that the client's own tells; without, of where it came from and of where it came to, as the system says that; none without a version
abbrev pub Greets : Option Version → Option Ends → SocketAddr → List ℕ → Type 0
Greets None told peer greeting = greeting ≡ []
Greets (Some version) None peer greeting = (here : SocketAddr) × (greeting ≡ written version (ends_of peer here))
Greets (Some version) (Some ends) peer greeting = greeting ≡ written version ends
