use Rattle.tcp_relay.proofs.LookLemmas.{silence_law}
use Rattle.tcp_relay.proofs.laws.silence_goes_on.Goals as goal

pub returns : goal.returns
returns c = silence_law
