use Rattle.tcp_link.proofs.DeliveryLemmas.{delivers}
use Rattle.tcp_link.proofs.laws.delivers.Goals as goal

pub returns : goal.returns
returns c = delivers
