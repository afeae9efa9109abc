use Rattle.admit_world.proofs.ReferenceLemmas.{references_law}
use Rattle.admit_world.proofs.laws.references.Goals as goal

pub returns : goal.returns
returns c = references_law
