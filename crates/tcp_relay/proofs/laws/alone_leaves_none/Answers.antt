use Rattle.tcp_relay.proofs.BalanceLemmas.{alone_none}
use Rattle.tcp_relay.proofs.laws.alone_leaves_none.Goals as goal

pub returns : goal.returns
returns c = alone_none
