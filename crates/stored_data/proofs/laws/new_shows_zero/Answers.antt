use Rattle.stored_data.proofs.Shown.{new_shows_zero}
use Rattle.stored_data.proofs.laws.new_shows_zero.Goals as goal

pub returns : goal.returns
returns c = new_shows_zero
