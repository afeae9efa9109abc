use Rattle.shard_book.proofs.RecordLemmas.{told-law}
use Rattle.shard_book.proofs.laws.told.Goals as goal

pub returns : goal.returns
returns c = told-law
