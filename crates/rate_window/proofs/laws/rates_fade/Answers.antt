use Rattle.rate_window.proofs.Fading.{rates_fade}
use Rattle.rate_window.proofs.laws.rates_fade.Goals as goal

pub returns : goal.returns
returns c = rates_fade
