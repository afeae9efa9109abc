-- What a fault says. The shards are counted first, in their order, then what is shown of others is looked at, and then the
-- records, in their order: the first fault is the one that is told.
use Rattle.std.specs.Prelude.{◌≡◌, ◌≢◌, ◌⊎◌, ℕ, ◌<◌, ◌≤◌, Bool, List, [], Some, length, slice_get, IsPermutation}
use Rattle.stick_model.specs.declared.specification.Spec.{Spec}
use Rattle.shard_book.specs.BookState.{BookState}
use Rattle.shard_book.specs.SeatState.{RefState, SeatState}
use Rattle.shard_settling.specs.declared.fault.Fault.{Fault}
use Rattle.shard_settling.specs.declared.fault.Fault.TheVariants.{MissingCalls, MissingRefs, Mismatch, Memory}
use Rattle.shard_settling.specs.Settled.{AreOfShards, CallNoOther, IsCounted, IsRecorded, calls_made, shown, tickets_of}

-- ---- what is in order before a fault

-- each shard below this number is counted
abbrev pub AreCounted : List SeatState → List RefState → List BookState → ℕ → Type 0
AreCounted seats refs books end = (shard : ℕ) (book : BookState) → shard < end → slice_get books shard ≡ Some book → IsCounted seats refs shard book

-- each shard below this number is recorded
abbrev pub AreRecorded : List Spec → Bool → List SeatState → List BookState → ℕ → Type 0
AreRecorded specs keep seats books end =
    (shard : ℕ) (book : BookState) (part : Spec) → shard < end → slice_get books shard ≡ Some book → slice_get specs shard ≡ Some part → IsRecorded part keep seats shard book

-- all shards are counted, and nothing is shown of others
pub record AllCounted (seats : List SeatState) (refs : List RefState) (books : List BookState) : Type 0 where
  pub shards : AreCounted seats refs books (length books)
  pub no_other_calls : CallNoOther (length books) seats
  pub no_other_refs : AreOfShards (length books) refs

-- ---- a fault of a shard

-- it has counted other events than the seats' calls; those below it are counted
pub record MissesCalls (seats : List SeatState) (refs : List RefState) (books : List BookState) (shard : ℕ) : Type 0 where
  pub book : BookState
  pub there : slice_get books shard ≡ Some book
  pub before : AreCounted seats refs books shard
  pub calls : book.live.events ≢ calls_made seats shard

-- its events are the seats' calls, but other tickets are out than the references'; those below it are counted
pub record MissesRefs (seats : List SeatState) (refs : List RefState) (books : List BookState) (shard : ℕ) : Type 0 where
  pub book : BookState
  pub there : slice_get books shard ≡ Some book
  pub before : AreCounted seats refs books shard
  pub calls : book.live.events ≡ calls_made seats shard
  pub tickets : ¬ IsPermutation (tickets_of book.live) (shown shard refs)

-- its table or its record isn't what it has to be; those below it are recorded, and all are counted
pub record IsMismatched (specs : List Spec) (keep : Bool) (seats : List SeatState) (refs : List RefState) (books : List BookState) (shard : ℕ) : Type 0 where
  pub book : BookState
  pub part : Spec
  pub there : slice_get books shard ≡ Some book
  pub made : slice_get specs shard ≡ Some part
  pub counted : AllCounted seats refs books
  pub before : AreRecorded specs keep seats books shard
  pub differs : ¬ IsRecorded part keep seats shard book

-- ---- a fault of a shard that the table doesn't have

-- the seats have called it; the table's are counted
pub record MissesOtherCalls (seats : List SeatState) (refs : List RefState) (books : List BookState) (shard : ℕ) : Type 0 where
  pub other : length books ≤ shard
  pub before : AreCounted seats refs books (length books)
  pub calls : calls_made seats shard ≢ 0

-- a reference of it is shown; the table's are counted, and the seats have called no other
pub record MissesOtherRefs (seats : List SeatState) (refs : List RefState) (books : List BookState) (shard : ℕ) : Type 0 where
  pub other : length books ≤ shard
  pub before : AreCounted seats refs books (length books)
  pub calls : CallNoOther (length books) seats
  pub tickets : shown shard refs ≢ []

-- ---- faults

-- what the fault of a table says. Want of memory says nothing of it
abbrev pub IsFault : List Spec → Bool → List SeatState → List RefState → List BookState → Fault → Type 0
IsFault specs keep seats refs books (MissingCalls shard) = MissesCalls seats refs books shard ⊎ MissesOtherCalls seats refs books shard
IsFault specs keep seats refs books (MissingRefs shard) = MissesRefs seats refs books shard ⊎ MissesOtherRefs seats refs books shard
IsFault specs keep seats refs books (Mismatch shard) = IsMismatched specs keep seats refs books shard
IsFault specs keep seats refs books Memory = Unit {0}

-- ---- as each part of settling tells it

-- of the counts of one shard
abbrev pub IsCountFaultOf : List SeatState → List RefState → ℕ → BookState → Fault → Type 0
IsCountFaultOf seats refs shard book (MissingCalls at) = (at ≡ shard) × (book.live.events ≢ calls_made seats shard)
IsCountFaultOf seats refs shard book (MissingRefs at) = (at ≡ shard) × (book.live.events ≡ calls_made seats shard) × ¬ IsPermutation (tickets_of book.live) (shown shard refs)
IsCountFaultOf seats refs shard book (Mismatch at) = ⊥
IsCountFaultOf seats refs shard book Memory = Unit {0}

-- of the record of one shard
abbrev pub IsRecordFaultOf : Spec → Bool → List SeatState → ℕ → BookState → Fault → Type 0
IsRecordFaultOf part keep seats shard book (Mismatch at) = (at ≡ shard) × ¬ IsRecorded part keep seats shard book
IsRecordFaultOf part keep seats shard book (MissingCalls at) = ⊥
IsRecordFaultOf part keep seats shard book (MissingRefs at) = ⊥
IsRecordFaultOf part keep seats shard book Memory = Unit {0}

-- of the counts, whatever the shards are made with, and whether receipts are kept or not
pub record IsCountFault (seats : List SeatState) (refs : List RefState) (books : List BookState) (fault : Fault) : Type 0 where
  pub any : (specs : List Spec) (keep : Bool) → IsFault specs keep seats refs books fault

-- of what is shown of other shards than so many, whatever table it is of whose shards are counted
pub record IsOtherFault (seats : List SeatState) (refs : List RefState) (shards : ℕ) (fault : Fault) : Type 0 where
  pub any : (specs : List Spec) (keep : Bool) (books : List BookState) → length books ≡ shards → AreCounted seats refs books (length books) → IsFault specs keep seats refs books fault

-- of the records, whatever references are shown, where all is counted
pub record IsRecordFault (specs : List Spec) (keep : Bool) (seats : List SeatState) (books : List BookState) (fault : Fault) : Type 0 where
  pub any : (refs : List RefState) → AllCounted seats refs books → IsFault specs keep seats refs books fault
