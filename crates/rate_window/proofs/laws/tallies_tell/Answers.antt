use Rattle.rate_window.proofs.Counts.{rate_of-tally}
use Rattle.rate_window.proofs.laws.tallies_tell.Goals as goal

pub returns : goal.returns
returns c = rate_of-tally
