use Rattle.shard_record.proofs.OneKey.{one_key-law}
use Rattle.shard_record.proofs.laws.one_key.Goals as goal

pub returns : goal.returns
returns c = one_key-law
