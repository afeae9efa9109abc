use Rattle.shard_book.proofs.BooksLemmas.{sizes-law}
use Rattle.shard_book.proofs.laws.sizes.Goals as goal

pub returns : goal.returns
returns c = sizes-law
