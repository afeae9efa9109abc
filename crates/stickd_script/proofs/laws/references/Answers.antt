use Rattle.stickd_script.proofs.ServedLemmas.{references_law}
use Rattle.stickd_script.proofs.laws.references.Goals as goal

pub returns : goal.returns
returns c = references_law
