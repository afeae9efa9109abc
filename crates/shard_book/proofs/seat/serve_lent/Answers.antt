use Rattle.std.proofs.Common.{◌≡◌, ◌+◌}
use Rattle.shard_book.specs.SeatState.{SeatState, after_call}
use Rattle.shard_book.proofs.ToldLemmas.{called, refused_to_opened, served_is_seat, served_number, served_told}
use Rattle.shard_book.proofs.seat.serve_lent.Goals as goal

pub invariant_of-seat : goal.invariant_of-seat
invariant_of-seat g c =
    let seat : SeatState = record { number = c.seat.inside.number; calls = c.seat.inside.calls; seen = c.seat.inside.seen; keeps = c.seat.inside.keeps; receipts = c.seat.inside.receipts.items } in
    let now : SeatState = record seat { calls = c.count_call.new.calls; seen = c.count_call.new.seen; receipts = c.ask.new.receipts.items } in
    let called_so : now ≡ after_call seat c.args.shard (c.events-count.result + 1) c.args.event.now c.in-Ok.reply =
    called seat now.calls now.seen now.receipts c.args.shard (c.events-count.result + 1) c.args.event.now c.in-Ok.reply c.count_call.ensures.calls c.count_call.ensures.seen c.in-Ok.ensures.receipts in
    served_is_seat c.args.book.now c.ask.new.book seat now c.events-count.result c.args.shard c.args.event.now c.in-Ok.reply called_so c.seat.invariant c.requires.shard c.in-Ok.ensures.ok c.in-Ok.ensures.book c.events-count.ensures.events c.if-count-front.false

pub returns-in-Ok-clause-told : goal.returns-in-Ok-clause-told
returns-in-Ok-clause-told g c =
    let seat : SeatState = record { number = c.seat.inside.number; calls = c.seat.inside.calls; seen = c.seat.inside.seen; keeps = c.seat.inside.keeps; receipts = c.seat.inside.receipts.items } in
    let now : SeatState = record seat { calls = c.count_call.new.calls; seen = c.count_call.new.seen; receipts = c.ask.new.receipts.items } in
    let called_so : now ≡ after_call seat c.args.shard (c.events-count.result + 1) c.args.event.now c.in-Ok.reply =
    called seat now.calls now.seen now.receipts c.args.shard (c.events-count.result + 1) c.args.event.now c.in-Ok.reply c.count_call.ensures.calls c.count_call.ensures.seen c.in-Ok.ensures.receipts in
    served_told c.args.book.now c.ask.new.book c.args.seat.now seat now c.events-count.result c.args.shard c.args.event.now c.in-Ok.reply c.seat.view_is called_so c.events-count.ensures.book c.in-Ok.ensures.lives c.in-Ok.ensures.ok c.events-count.ensures.events c.if-count-front.false

pub returns-in-Ok-clause-number : goal.returns-in-Ok-clause-number
returns-in-Ok-clause-number g c =
    let seat : SeatState = record { number = c.seat.inside.number; calls = c.seat.inside.calls; seen = c.seat.inside.seen; keeps = c.seat.inside.keeps; receipts = c.seat.inside.receipts.items } in
    let now : SeatState = record seat { calls = c.count_call.new.calls; seen = c.count_call.new.seen; receipts = c.ask.new.receipts.items } in
    let called_so : now ≡ after_call seat c.args.shard (c.events-count.result + 1) c.args.event.now c.in-Ok.reply =
    called seat now.calls now.seen now.receipts c.args.shard (c.events-count.result + 1) c.args.event.now c.in-Ok.reply c.count_call.ensures.calls c.count_call.ensures.seen c.in-Ok.ensures.receipts in
    served_number c.args.book.now c.ask.new.book seat now c.events-count.result c.args.shard c.args.event.now c.in-Ok.reply called_so c.seat.invariant c.requires.shard c.in-Ok.ensures.ok c.events-count.ensures.events

pub returns-in-Err-clause-refused : goal.returns-in-Err-clause-refused
returns-in-Err-clause-refused g c =
    let seat : SeatState = record { number = c.seat.inside.number; calls = c.seat.inside.calls; seen = c.seat.inside.seen; keeps = c.seat.inside.keeps; receipts = c.seat.inside.receipts.items } in
    refused_to_opened c.args.book.now seat c.args.seat.now c.events-count.result c.args.shard c.args.event.now c.in-Err.refusal c.seat.view_is c.events-count.ensures.book c.events-count.ensures.events c.if-count-front.false c.in-Err.ensures.refused
