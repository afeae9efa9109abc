-- Where clients come in.
use Rattle.std.specs.Prelude.{Bool, ◌||◌, List}
use Rattle.std.specs.List.{list_any}
use Rattle.rule_addresses.specs.declared.address.Endpoint.{Endpoint}
use Rattle.rule_warnings.specs.NoEffect.{is_ipv6 as is_ipv6_address}

abbrev pub is_ipv6 : Endpoint → Bool
is_ipv6 place = is_ipv6_address place.address

-- whether clients come with IPv6 addresses to a bind, or to one of those besides
abbrev pub takes_ipv6 : Endpoint → List Endpoint → Bool
takes_ipv6 bind more = is_ipv6 bind || list_any is_ipv6 more
