use Rattle.tcp_relay.proofs.BalanceLemmas.{even_stays}
use Rattle.tcp_relay.proofs.laws.stays_even.Goals as goal

pub returns : goal.returns
returns c = even_stays
