use Rattle.std.proofs.Common.{◌≡◌, ◌<◌, ℕ, Some}
use Rattle.std.specs.Prelude.{slice_get}
use Rattle.stick_model.specs.declared.specification.Spec.{Spec}
use Rattle.shard_book.specs.BookState.{BookState}
use Rattle.shard_locks.specs.Shared.{seats_of}
use Rattle.shard_settling.specs.Settled.{IsRecorded}
use Rattle.shard_settling.proofs.checking.check_records.Given as goal

abbrev pub invariant-loop-shard : goal.invariant-loop-shard
invariant-loop-shard g l = (k : ℕ) (book : BookState) (part : Spec) → k < l.shard → slice_get l.books k ≡ Some book → slice_get l.specs k ≡ Some part → IsRecorded part l.keep (seats_of l.seats) k book
