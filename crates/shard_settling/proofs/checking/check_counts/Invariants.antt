use Rattle.std.proofs.Common.{◌≡◌, ◌<◌, ℕ, Some}
use Rattle.std.specs.Prelude.{slice_get}
use Rattle.shard_book.specs.BookState.{BookState}
use Rattle.shard_locks.specs.Shared.{seats_of}
use Rattle.shard_settling.specs.Settled.{IsCounted}
use Rattle.shard_settling.proofs.checking.check_counts.Given as goal

abbrev pub invariant-loop-shard : goal.invariant-loop-shard
invariant-loop-shard g l = (k : ℕ) (book : BookState) → k < l.shard → slice_get l.books k ≡ Some book → IsCounted (seats_of l.seats) l.refs k book
