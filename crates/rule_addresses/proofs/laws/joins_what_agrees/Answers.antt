use Rattle.rule_addresses.proofs.AgreeLemmas.{joins_ipv4, joins_ipv6}
use Rattle.rule_addresses.proofs.laws.joins_what_agrees.Goals as goal

pub returns-clause-ipv4 : goal.returns-clause-ipv4
returns-clause-ipv4 c = joins_ipv4

pub returns-clause-ipv6 : goal.returns-clause-ipv6
returns-clause-ipv6 c = joins_ipv6
