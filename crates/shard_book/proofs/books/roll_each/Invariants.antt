use Rattle.std.proofs.Common.{◌≡◌}
use Rattle.shard_book.specs.Rolling.{rolled_first}
use Rattle.shard_book.proofs.books.roll_each.Given as goal

-- The books so far are rolled, and the others are as they were.
abbrev pub invariant-loop-shard : goal.invariant-loop-shard
invariant-loop-shard g l = l.books.items ≡ rolled_first l.shard l.fn.books.items
