use Rattle.std.proofs.Common.{List, length, refl, rules}
use Rattle.shard_book.specs.BookState.{BookState}
use Rattle.shard_locks.specs.Shared.{seats_of}
use Rattle.shard_settling.specs.Faults.{AllCounted, AreCounted, IsFault}
use Rattle.shard_settling.proofs.checking.check.Goals as goal

pub returns-in_err-check_counts-clause-fault : goal.returns-in_err-check_counts-clause-fault
returns-in_err-check_counts-clause-fault g c =
    let told : IsFault c.args.specs.now c.args.keep (seats_of c.args.seats.now) c.args.refs.now c.args.books.now c.in_err-check_counts.field-0.0 = c.in_err-check_counts.ensures.err.any c.args.specs.now c.args.keep in
    search rules

pub returns-in_err-check_others-clause-fault : goal.returns-in_err-check_others-clause-fault
returns-in_err-check_others-clause-fault g c =
    let books : List BookState = c.args.books.now in
    let counted : AreCounted (seats_of c.args.seats.now) c.args.refs.now books (length books) = λ shard book below there. c.in_ok-check_counts.ensures.ok shard book there in
    let told : IsFault c.args.specs.now c.args.keep (seats_of c.args.seats.now) c.args.refs.now books c.in_err-check_others.field-0.0 = c.in_err-check_others.ensures.err.any c.args.specs.now c.args.keep books refl counted in
    search rules

pub returns-in_err-check_records-clause-fault : goal.returns-in_err-check_records-clause-fault
returns-in_err-check_records-clause-fault g c =
    let books : List BookState = c.args.books.now in
    let counted : AllCounted (seats_of c.args.seats.now) c.args.refs.now books =
    record { shards = λ shard book below there. c.in_ok-check_counts.ensures.ok shard book there; no_other_calls = c.in_ok-check_others.ensures.calls; no_other_refs = c.in_ok-check_others.ensures.refs } in
    let told : IsFault c.args.specs.now c.args.keep (seats_of c.args.seats.now) c.args.refs.now books c.in_err-check_records.field-0.0 = c.in_err-check_records.ensures.err.any c.args.refs.now counted in
    search rules
