-- Whom a client is taken for: by where it connects from, or by what the proxy tells of it that it connects through.
use Rattle.std.specs.Prelude.{◌≡◌, ℕ, Bool, if◌then◌else◌, List, Option, Some, None}
use Rattle.std.specs.List.{list_any}
use Rattle.std.specs.declared.net.socket_addr.SocketAddr.{SocketAddr}
use Rattle.std.specs.Net.Socket.{socket_ip, IsPlainSocket}
use Rattle.rule_addresses.specs.Matching.{holds}
use Rattle.rule_addresses.specs.declared.address.Address.{Address}
use Rattle.rule_addresses.specs.declared.address.Network.{Network}
use Rattle.rule_eval.specs.declared.wants.Samples.{Samples}
use Rattle.proxy_header.specs.Header.{heard}
use Rattle.proxy_header.specs.declared.ends.Ends.{Ends}
use Rattle.proxy_header.specs.declared.ends.Heard.TheVariants.{Told}
use Rattle.tcp_relay.specs.Addresses.{IsAddress, address_of, samples_of}
use Rattle.tcp_relay.specs.declared.trust.Expecting.{Expecting}
use Rattle.tcp_relay.specs.declared.trust.Expecting.TheVariants.{Direct, Header, Refused}
use Rattle.tcp_relay.specs.declared.trust.Proxies.{Proxies}

-- which networks proxies are believed from, and whether all other clients are reset
pub record Trust : Type 0 where
  pub networks : List Network
  pub excludes_others : Bool

abbrev pub trust_of : Option Proxies → Option Trust
trust_of None = None
trust_of (Some proxies) = Some (record { networks = proxies.networks.now; excludes_others = proxies.excludes_others })

-- what a client does first, by where it connects from: from one of the networks it begins by a header; else it is a client like any, or is reset
abbrev pub expects : Option Trust → Address → Expecting
expects None source = Direct
expects (Some trust) source =
    if list_any (λ network. holds network source) trust.networks then Header
    else if trust.excludes_others then Refused
    else Direct

-- some first bytes of a connection are a whole header of that length, which tells these ends, or none
abbrev pub IsSaid : ℕ → Option Ends → Type 0
IsSaid length ends = ∥ ((bytes : List ℕ) × (heard bytes ≡ Told length ends)) ∥₁

-- what is told of a client that is judged: nothing of one that is a client like any; of one that begins by a header what that tells
abbrev pub Introduces : Expecting → Option Ends → Type 0
Introduces Direct told = told ≡ None
Introduces Header told = (length : ℕ) × IsSaid length told
Introduces Refused told = ⊥

abbrev pub IsIntroduced : Expecting → Option Ends → Type 0
IsIntroduced expecting told = ∥ Introduces expecting told ∥₁

-- where a client connects from
abbrev pub source_of : SocketAddr → Address
source_of peer = address_of (socket_ip peer)

-- what rules are told of a client: the ends that its header tells; where that tells none, or there is none, where it connects from, and the port that it came to
abbrev pub samples_by : Option Ends → SocketAddr → ℕ → Samples
samples_by None peer port = samples_of peer port
samples_by (Some ends) peer port = record { src = ends.source; src_port = ends.source_port; dst_port = ends.destination_port }

-- where a client is said to be: where its header tells, or where it connects from
abbrev pub IsFrom : Option Ends → SocketAddr → SocketAddr → Type 0
IsFrom None peer source = source ≡ peer
IsFrom (Some ends) peer source = IsAddress (socket_ip source) ends.source × IsPlainSocket source ends.source_port
