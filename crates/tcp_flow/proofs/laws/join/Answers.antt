use Rattle.tcp_flow.proofs.MoveLemmas.{moved_twice}
use Rattle.tcp_flow.proofs.laws.join.Goals as goal

pub returns : goal.returns
returns g c = moved_twice g.R.ReadySource.tells g.W.ReadySink.tells
