use Rattle.rate_window.proofs.Fading.{rates_are_counted}
use Rattle.rate_window.proofs.laws.rates_are_counted.Goals as goal

pub returns : goal.returns
returns c = rates_are_counted
