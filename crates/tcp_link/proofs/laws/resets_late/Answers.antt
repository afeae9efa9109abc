use Rattle.tcp_link.proofs.DeliveryLemmas.{resets_late}
use Rattle.tcp_link.proofs.laws.resets_late.Goals as goal

pub returns : goal.returns
returns c = resets_late
