use Rattle.rule_addresses.proofs.BitLemmas.{compares_first_bits}
use Rattle.rule_addresses.proofs.laws.compares_first_bits.Goals as goal

pub returns : goal.returns
returns c = compares_first_bits
