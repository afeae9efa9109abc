use Rattle.shard_record.proofs.LawLemmas.{at_once-law}
use Rattle.shard_record.proofs.laws.at_once.Goals as goal

pub returns : goal.returns
returns c = at_once-law
