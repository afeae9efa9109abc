use Rattle.rate_window.proofs.Orders.{counts_go_on}
use Rattle.rate_window.proofs.laws.counts_go_on.Goals as goal

pub returns : goal.returns
returns c = counts_go_on
