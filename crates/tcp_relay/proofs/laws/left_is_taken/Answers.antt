use Rattle.tcp_relay.proofs.BalanceLemmas.{left_taken}
use Rattle.tcp_relay.proofs.laws.left_is_taken.Goals as goal

pub returns : goal.returns
returns c = left_taken
