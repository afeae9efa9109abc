use Rattle.tcp_relay.proofs.AcrossLemmas.{across}
use Rattle.tcp_relay.proofs.laws.across.Goals as goal

pub returns : goal.returns
returns c = across
