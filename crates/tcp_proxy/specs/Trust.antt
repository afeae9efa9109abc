-- Who is believed to say for whom it connects, and who can connect.
use Rattle.std.specs.Prelude.{Bool, false, ◌||◌, ◌&&◌, ◌==◌, not, List, [], ◌∷◌, Option, Some, None}
use Rattle.std.specs.List.{list_any}
use Rattle.rule_addresses.specs.Matching.{holds}
use Rattle.rule_addresses.specs.declared.address.Address.TheVariants.{V4, V6}
use Rattle.rule_addresses.specs.declared.address.Endpoint.{Endpoint}
use Rattle.rule_addresses.specs.declared.address.Network.{Network}
use Rattle.tcp_relay.specs.declared.trust.Proxies.{Proxies}

-- the addresses of the machine itself: 127.0.0.0/8 (RFC 1122, section 3.2.1.3), which mapped addresses stand for too, and ::1 (RFC 4291, section 2.5.3)
abbrev pub local_v4 : Network
local_v4 = record { address = V4 (127 ∷ 0 ∷ 0 ∷ 0 ∷ []); length = 8 }

abbrev pub local_v6 : Network
local_v6 = record { address = V6 (0 ∷ 0 ∷ 0 ∷ 0 ∷ 0 ∷ 0 ∷ 0 ∷ 0 ∷ 0 ∷ 0 ∷ 0 ∷ 0 ∷ 0 ∷ 0 ∷ 0 ∷ 1 ∷ []); length = 128 }

-- others can connect there than programs of the same machine
abbrev pub is_open_at : Endpoint → Bool
is_open_at place = not (holds local_v4 place.address) && not (holds local_v6 place.address)

-- the same of a bind, or of one of those besides
abbrev pub is_open : Endpoint → List Endpoint → Bool
is_open bind more = is_open_at bind || list_any is_open_at more

-- where no bit is compared, each address of the family agrees
abbrev pub holds_all : Network → Bool
holds_all network = network.length == 0

-- whoever connects, of one family at least, says for whom
abbrev pub believes_all : Option Proxies → Bool
believes_all None = false
believes_all (Some proxies) = list_any holds_all proxies.networks.now
