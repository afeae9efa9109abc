use Rattle.shard_book.proofs.LawLemmas.{call-law}
use Rattle.shard_book.proofs.seat_laws.one_call.Goals as goal

pub returns : goal.returns
returns c = call-law
