use Rattle.entry_pool.proofs.LawLemmas.{gone}
use Rattle.entry_pool.proofs.laws.gone_for_ever.Goals as goal

pub returns : goal.returns
returns g c = gone
