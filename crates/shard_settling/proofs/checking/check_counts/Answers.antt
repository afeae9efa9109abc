use Rattle.std.proofs.Common.{◌≡◌, ◌<◌, ℕ, List, Some, length, arith, rules}
use Rattle.std.specs.Prelude.{slice_get}
use Rattle.shard_book.specs.BookState.{BookState}
use Rattle.shard_locks.specs.Shared.{seats_of}
use Rattle.shard_settling.specs.Settled.{IsCounted}
use Rattle.shard_settling.specs.Faults.{IsCountFault}
use Rattle.shard_settling.proofs.FaultLemmas.{count_fault}
use Rattle.shard_settling.proofs.ListLemmas.{below_next, get_at, in_range}
use Rattle.shard_settling.proofs.checking.check_counts.Goals as goal

pub returns-in_err-check_count-clause-err : goal.returns-in_err-check_count-clause-err
returns-in_err-check_count-clause-err g c =
    let books : List BookState = c.args.books.now in
    let i : ℕ = c.loop-shard.shard in
    let book : BookState = c.index-books-shard.result in
    let at : slice_get books i ≡ Some book = get_at books i book c.loop-shard-test.true c.index-books-shard.is in
    let told : IsCountFault (seats_of c.args.seats.now) c.args.refs.now books c.in_err-check_count.field-0.0 =
    count_fault (seats_of c.args.seats.now) c.args.refs.now books i book c.in_err-check_count.field-0.0 at c.loop-shard.invariant c.in_err-check_count.ensures.err in
    search rules

pub loop-shard-preserved : goal.loop-shard-preserved
loop-shard-preserved g c =
    let books : List BookState = c.args.books.now in
    let i : ℕ = c.loop-shard.shard in
    let book : BookState = c.index-books-shard.result in
    below_next (λ (k : ℕ) (b : BookState). IsCounted (seats_of c.args.seats.now) c.args.refs.now k b) books i book (get_at books i book c.loop-shard-test.true c.index-books-shard.is) c.loop-shard.invariant c.in_ok-check_count.ensures.ok

pub returns-clause-ok : goal.returns-clause-ok
returns-clause-ok g c = λ k book at. let below : k < length c.args.books.now = in_range c.args.books.now k book at in c.loop-shard.invariant k book (omega (arith, below, c.loop-shard-test.false)) at
