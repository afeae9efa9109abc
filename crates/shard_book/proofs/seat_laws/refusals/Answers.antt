use Rattle.shard_book.proofs.LawLemmas.{refusal-law}
use Rattle.shard_book.proofs.seat_laws.refusals.Goals as goal

pub returns : goal.returns
returns c = refusal-law
