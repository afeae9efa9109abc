use Rattle.std.proofs.Common.{◌≡◌, ◌<◌, ℕ, List, Some, length, arith, rules}
use Rattle.std.specs.Prelude.{slice_get}
use Rattle.stick_model.specs.declared.specification.Spec.{Spec}
use Rattle.shard_book.specs.BookState.{BookState}
use Rattle.shard_locks.specs.Shared.{seats_of}
use Rattle.shard_settling.specs.Settled.{IsRecorded}
use Rattle.shard_settling.specs.Faults.{IsRecordFault}
use Rattle.shard_settling.proofs.FaultLemmas.{record_fault}
use Rattle.shard_settling.proofs.ListLemmas.{both_below_next, get_at, in_range}
use Rattle.shard_settling.proofs.checking.check_records.Goals as goal

pub returns-in_err-check_record-clause-err : goal.returns-in_err-check_record-clause-err
returns-in_err-check_record-clause-err g c =
    let books : List BookState = c.args.books.now in
    let specs : List Spec = c.args.specs.now in
    let i : ℕ = c.loop-shard.shard in
    let book : BookState = c.index-books-shard.result in
    let part : Spec = c.index-specs-shard.result in
    let at : slice_get books i ≡ Some book = get_at books i book c.loop-shard-test.true c.index-books-shard.is in
    let made : slice_get specs i ≡ Some part = get_at specs i part (omega (arith, c.requires.shards, c.loop-shard-test.true)) c.index-specs-shard.is in
    let told : IsRecordFault specs c.args.keep (seats_of c.args.seats.now) books c.in_err-check_record.field-0.0 =
    record_fault specs c.args.keep (seats_of c.args.seats.now) books i part book c.in_err-check_record.field-0.0 made at c.loop-shard.invariant c.in_err-check_record.ensures.err in
    search rules

pub loop-shard-preserved : goal.loop-shard-preserved
loop-shard-preserved g c =
    let books : List BookState = c.args.books.now in
    let specs : List Spec = c.args.specs.now in
    let i : ℕ = c.loop-shard.shard in
    let book : BookState = c.index-books-shard.result in
    let part : Spec = c.index-specs-shard.result in
    both_below_next (λ (k : ℕ) (b : BookState) (made : Spec). IsRecorded made c.args.keep (seats_of c.args.seats.now) k b) books specs i book part
    (get_at books i book c.loop-shard-test.true c.index-books-shard.is) (get_at specs i part (omega (arith, c.requires.shards, c.loop-shard-test.true)) c.index-specs-shard.is)
    c.loop-shard.invariant c.in_ok-check_record.ensures.ok

pub returns-clause-ok : goal.returns-clause-ok
returns-clause-ok g c = λ k book part at made. let below : k < length c.args.books.now = in_range c.args.books.now k book at in c.loop-shard.invariant k book part (omega (arith, below, c.loop-shard-test.false)) at made
