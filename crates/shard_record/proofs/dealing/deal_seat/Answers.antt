use Rattle.shard_record.proofs.DealingLemmas.{first_more, first_start, seat_more, seat_start}
use Rattle.shard_record.proofs.dealing.deal_seat.Goals as goal

pub loop-book-init : goal.loop-book-init
loop-book-init g c =
    let seat = seat_start c.args.kept c.args.number c.args.seats c.args.books c.args.first.now c.part_held-seat.result c.requires.first c.part_held-seat.ensures.given in
    record { first = first_start c.args.kept c.args.number c.args.seats c.args.books c.args.first.now c.part_held-seat.new.me c.requires.first c.part_held-seat.ensures.left; seat = seat.0; settled = seat.1 }

pub loop-book-preserved : goal.loop-book-preserved
loop-book-preserved g c =
    let was = c.loop-book.invariant in
    let seat = seat_more c.args.kept c.args.number c.args.seats c.args.books c.loop-book.book c.loop-book.first c.part_seat-one.result c.loop-book.seat c.join.new.me c.requires.number c.loop-book-test.true was.first was.seat was.settled c.part_seat-one.ensures.given c.join.ensures.both in
    record { first = first_more c.args.kept c.args.number c.args.seats c.args.books c.loop-book.book c.loop-book.first c.part_seat-one.new.me c.requires.number c.loop-book-test.true was.first c.part_seat-one.ensures.left; seat = seat.0; settled = seat.1 }
