use Rattle.std.proofs.Common.{◌≡◌, map}
use Rattle.std.specs.List.{range_with_len}
use Rattle.shard_book.specs.BookState.{opened}
use Rattle.shard_book.specs.Keeping.{part_of}
use Rattle.shard_book.proofs.books.Books.new.Given as goal

abbrev pub invariant-loop-shard : goal.invariant-loop-shard
invariant-loop-shard g l = l.books.items ≡ map (λ i. opened (part_of l.spec l.shards i)) (range_with_len 0 l.shard)
