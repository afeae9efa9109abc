use Rattle.tcp_relay.proofs.AcrossLemmas.{passes_more}
use Rattle.tcp_relay.proofs.laws.passes_more.Goals as goal

pub returns : goal.returns
returns c = passes_more
