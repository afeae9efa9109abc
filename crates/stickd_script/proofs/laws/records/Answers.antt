use Rattle.stickd_script.proofs.RollLemmas.{records-law}
use Rattle.stickd_script.proofs.laws.records.Goals as goal

pub returns : goal.returns
returns c = records-law
