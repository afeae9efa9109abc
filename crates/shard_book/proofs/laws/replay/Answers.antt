use Rattle.shard_book.proofs.RecordLemmas.{replay-law}
use Rattle.shard_book.proofs.laws.replay.Goals as goal

pub returns : goal.returns
returns c = replay-law
