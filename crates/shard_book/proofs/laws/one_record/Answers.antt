use Rattle.shard_book.proofs.RecordLemmas.{one-record-law}
use Rattle.shard_book.proofs.laws.one_record.Goals as goal

pub returns : goal.returns
returns c = one-record-law
