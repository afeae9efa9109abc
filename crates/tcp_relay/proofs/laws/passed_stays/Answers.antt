use Rattle.tcp_relay.proofs.PassedStays.{stays_law}
use Rattle.tcp_relay.proofs.laws.passed_stays.Goals as goal

pub returns : goal.returns
returns c = stays_law
