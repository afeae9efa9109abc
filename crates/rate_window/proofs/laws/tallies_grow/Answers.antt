use Rattle.rate_window.proofs.Counts.{with_count-tally}
use Rattle.rate_window.proofs.laws.tallies_grow.Goals as goal

pub returns : goal.returns
returns c = with_count-tally
