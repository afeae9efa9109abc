-- What each part of settling tells is a fault of the table.
use Rattle.std.proofs.Common.{◌≡◌, ◌≢◌, inl, inr, ℕ, zero, suc, ◌<◌, ◌≤◌, nat_eq, Bool, true, false, cond, List, [], ◌∷◌, length, map, filter, Some, refl, sym, subst, ◌⊎◌, arith}
use Rattle.std.specs.Prelude.{slice_get}
use Rattle.std.proofs.lemmas.Bool.{false≢true}
use Rattle.std.proofs.lemmas.Bool.Decides.{nat_tests}
use Rattle.stick_model.specs.declared.specification.Spec.{Spec}
use Rattle.stick_model.specs.declared.rows.Ticket.{Ticket}
use Rattle.shard_book.specs.BookState.{BookState}
use Rattle.shard_book.specs.SeatState.{RefState, SeatState}
use Rattle.shard_settling.specs.declared.fault.Fault.{Fault}
use Rattle.shard_settling.specs.declared.fault.Fault.TheVariants.{MissingCalls, MissingRefs, Mismatch, Memory}
use Rattle.shard_settling.specs.Settled.{CallNoOther, calls_made, shown}
use Rattle.shard_settling.proofs.ListLemmas.{same_some}
use Rattle.shard_settling.specs.Faults.{AreCounted, AreRecorded, IsCountFault, IsCountFaultOf, IsMismatched, IsOtherFault, IsRecordFault, IsRecordFaultOf, MissesCalls, MissesRefs}

pub some_at : {X : Type 0} (xs : List X) (i : ℕ) → i < length xs → (x : X) × (slice_get xs i ≡ Some x)
some_at [] i below = absurd (omega arith)
some_at (x ∷ xs) zero below = (x, refl)
some_at (x ∷ xs) (suc i) below = some_at xs i (omega arith)

-- ---- of the counts

pub count_fault : (seats : List SeatState) (refs : List RefState) (books : List BookState) (shard : ℕ) (book : BookState) (fault : Fault)
    → slice_get books shard ≡ Some book → AreCounted seats refs books shard → IsCountFaultOf seats refs shard book fault → IsCountFault seats refs books fault
count_fault seats refs books shard book (MissingCalls at) there before of =
    record { any = λ specs keep. inl (subst (MissesCalls seats refs books) (sym of.0) (record { book = book; there = there; before = before; calls = of.1 })) }
count_fault seats refs books shard book (MissingRefs at) there before of =
    record { any = λ specs keep. inl (subst (MissesRefs seats refs books) (sym of.0) (record { book = book; there = there; before = before; calls = of.1; tickets = of.2 })) }
count_fault seats refs books shard book (Mismatch at) there before of = absurd of
count_fault seats refs books shard book Memory there before of = record { any = λ specs keep. tt }

-- ---- of what is shown of other shards

pub other_calls_fault : (seats : List SeatState) (refs : List RefState) (shards shard : ℕ) → shards ≤ shard → calls_made seats shard ≢ 0 → IsOtherFault seats refs shards (MissingCalls shard)
other_calls_fault seats refs shards shard other calls =
    record { any = λ specs keep books same before. inr (record { other = subst (λ n. n ≤ shard) (sym same) other; before = before; calls = calls }) }

pub other_refs_fault : (seats : List SeatState) (refs : List RefState) (shards shard : ℕ) → shards ≤ shard → CallNoOther shards seats → shown shard refs ≢ [] → IsOtherFault seats refs shards (MissingRefs shard)
other_refs_fault seats refs shards shard other calls there =
    record { any = λ specs keep books same before. inr (record { other = subst (λ n. n ≤ shard) (sym same) other; before = before; calls = subst (λ n. CallNoOther n seats) (sym same) calls; tickets = there }) }

some_none : (ticket : Ticket) (tickets : List Ticket) → ticket ∷ tickets ≡ [] → ⊥
some_none ticket tickets e = cc

-- with the first one, or with some of the others
kept : (keeps : Bool) (first : RefState) (others : List RefState) → (keeps ≡ true) ⊎ (map (λ (reference : RefState). reference.ticket) others ≢ []) → map (λ (reference : RefState). reference.ticket) (cond keeps (first ∷ others) others) ≢ []
kept true first others h = some_none first.ticket (map (λ (reference : RefState). reference.ticket) others)
kept false first others (inl is) = absurd (false≢true is)
kept false first others (inr some) = some

same_shard : (n : ℕ) → nat_eq n n ≡ true
same_shard n = grind (arith, nat_tests)

-- a reference at some place is shown
pub is_shown : (refs : List RefState) (i : ℕ) (reference : RefState) → slice_get refs i ≡ Some reference → shown reference.shard refs ≢ []
is_shown [] i reference at = absurd (cc)
is_shown (first ∷ refs) zero reference at =
    subst (λ (one : RefState). shown one.shard (first ∷ refs) ≢ []) (same_some first reference at) (kept (nat_eq first.shard first.shard) first (filter (λ (one : RefState). nat_eq one.shard first.shard) refs) (inl (same_shard first.shard)))
is_shown (first ∷ refs) (suc i) reference at =
    kept (nat_eq first.shard reference.shard) first (filter (λ (one : RefState). nat_eq one.shard reference.shard) refs) (inr (is_shown refs i reference at))

-- ---- of the records

pub record_fault : (specs : List Spec) (keep : Bool) (seats : List SeatState) (books : List BookState) (shard : ℕ) (part : Spec) (book : BookState) (fault : Fault)
    → slice_get specs shard ≡ Some part → slice_get books shard ≡ Some book → AreRecorded specs keep seats books shard → IsRecordFaultOf part keep seats shard book fault → IsRecordFault specs keep seats books fault
record_fault specs keep seats books shard part book (Mismatch at) made there before of =
    record { any = λ refs counted. subst (IsMismatched specs keep seats refs books) (sym of.0) (record { book = book; part = part; there = there; made = made; counted = counted; before = before; differs = of.1 }) }
record_fault specs keep seats books shard part book (MissingCalls at) made there before of = absurd of
record_fault specs keep seats books shard part book (MissingRefs at) made there before of = absurd of
record_fault specs keep seats books shard part book Memory made there before of = record { any = λ refs counted. tt }
