use Rattle.entry_pool.proofs.LawLemmas.{stays}
use Rattle.entry_pool.proofs.laws.others_stay.Goals as goal

pub returns : goal.returns
returns g c = stays
