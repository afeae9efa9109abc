use Rattle.tcp_relay.proofs.DrainLemmas.{drains_end}
use Rattle.tcp_relay.proofs.laws.drains.Goals as goal

pub returns : goal.returns
returns c = drains_end
