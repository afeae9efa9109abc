-- At which moment a worker's seats call.
use Rattle.std.specs.Prelude.{◌≡◌, ℕ, Some, List, ◌++◌, slice_get}
use Rattle.std.specs.List.{AllByRecursion}
use Rattle.stick_model.specs.Limits.{moment_of}
use Rattle.shard_record.specs.declared.view.Call.{Call}
use Rattle.shard_record.specs.Telling.{mine_of}
use Rattle.shard_locks.specs.ShardsState.{SeatedState, book_of}

-- the calls that a seat has made of a shard's book
abbrev pub mine_at : SeatedState → ℕ → List Call
mine_at seat part = mine_of (book_of seat.table part) seat.known

-- it has made some calls more, all of this moment
pub record HasCalledAt (now : ℕ) (was seat : SeatedState) (part : ℕ) : Type 0 where
  pub calls : List Call
  pub mine : mine_at seat part ≡ mine_at was part ++ calls
  pub now_all : AllByRecursion (λ (one : Call). moment_of one.event ≡ now) calls

-- what the seats have called for meanwhile is all of this moment
abbrev pub HaveCalledAt : ℕ → List SeatedState → List SeatedState → Type 0
HaveCalledAt now old new =
    (table : ℕ) (seat : SeatedState) → slice_get new table ≡ Some seat → (part : ℕ) → (was : SeatedState) × (slice_get old table ≡ Some was) × HasCalledAt now was seat part
