use Rattle.tcp_flow.proofs.MoveLemmas.{goes_on}
use Rattle.tcp_flow.proofs.laws.goes_on.Goals as goal

pub returns : goal.returns
returns g c = goes_on g.R.ReadySource.tells g.W.ReadySink.tells
