use Rattle.shard_settling.proofs.LawLemmas.{settled_limit}
use Rattle.shard_settling.proofs.laws.limit.Goals as goal

pub returns : goal.returns
returns c = settled_limit
