use Rattle.stickd_script.proofs.UnrefusedLemmas.{one_output_law}
use Rattle.stickd_script.proofs.laws.one_output.Goals as goal

pub returns : goal.returns
returns c = one_output_law c.reads_one_key.ensures
