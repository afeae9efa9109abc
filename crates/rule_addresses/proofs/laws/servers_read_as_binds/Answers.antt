use Rattle.rule_addresses.proofs.EndpointLemmas.{ports_are_some, servers_read_as_binds}
use Rattle.rule_addresses.proofs.laws.servers_read_as_binds.Goals as goal

pub returns-clause-binds : goal.returns-clause-binds
returns-clause-binds c = servers_read_as_binds

pub returns-clause-ports : goal.returns-clause-ports
returns-clause-ports c = ports_are_some
