use Rattle.entry_pool.proofs.LawLemmas.{inserted_found}
use Rattle.entry_pool.proofs.laws.inserted_is_found.Goals as goal

pub returns : goal.returns
returns g c = inserted_found
