use Rattle.std.proofs.Common.{◌≡◌, ◌^◌, ◌-◌, length, take, min, sum_by}
use Rattle.shard_book.specs.BookState.{BookState}
use Rattle.shard_book.proofs.books.count_calls.Given as goal

abbrev pub invariant-loop-book : goal.invariant-loop-book
invariant-loop-book g l = l.count ≡ min (sum_by (λ (book : BookState). length book.calls) (take l.book-index l.books.items)) (2 ^ 64 - 1)
