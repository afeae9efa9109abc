use Rattle.rule_addresses.proofs.BitLemmas.{compares_bits_of_address, holds_itself}
use Rattle.rule_addresses.proofs.laws.networks_hold_their_address.Goals as goal

pub returns-clause-bits : goal.returns-clause-bits
returns-clause-bits c = compares_bits_of_address

pub returns-clause-holds : goal.returns-clause-holds
returns-clause-holds c = holds_itself
