use Rattle.shard_book.proofs.RollLemmas.{rolling-law}
use Rattle.shard_book.proofs.laws.rolling.Goals as goal

pub returns : goal.returns
returns c = rolling-law
