use Rattle.tcp_relay.proofs.LookLemmas.{look_law}
use Rattle.tcp_relay.proofs.laws.looks.Goals as goal

pub returns : goal.returns
returns c = look_law
