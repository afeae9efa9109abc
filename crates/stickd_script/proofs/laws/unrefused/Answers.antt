use Rattle.stickd_script.proofs.UnrefusedLemmas.{unrefused_law}
use Rattle.stickd_script.proofs.laws.unrefused.Goals as goal

pub returns : goal.returns
returns c = unrefused_law
