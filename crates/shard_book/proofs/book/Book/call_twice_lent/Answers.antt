use Rattle.std.proofs.Common.{◌+◌, ◌≤◌, vec_len, vec_capacity, arith}
use Rattle.stick_model.specs.State.{State}
use Rattle.stick_model.specs.Refusals.{life_taken}
use Rattle.stick_model.specs.declared.replies.Reply.{Reply}
use Rattle.shard_book.proofs.BookLemmas.{extended, held_counted, place_left, places-recorded, recorded_more, recorded_so, tells_so}
use Rattle.shard_book.proofs.book.Book.call_twice_lent.Goals as goal

pub out_after-self-inside-requires-clause-held : goal.out_after-self-inside-requires-clause-held
out_after-self-inside-requires-clause-held g c is =
    let live : State = g.T.Table.state c.self.inside.live in
    let next : State = g.T.Table.state c.answer_twice.new.live in
    held_counted live c.args.event.now c.in_ok-reply.reply next c.self.inside.out c.self.invariant.0.live_legal c.in_ok-reply.ensures.ok c.self.invariant.1.counted is

pub invariant_of-self-2 : goal.invariant_of-self-2
invariant_of-self-2 g c =
    let reply : Reply = c.in_ok-reply.reply in
    let live : State = g.T.Table.state c.self.inside.live in
    let next : State = g.T.Table.state c.answer_twice.new.live in
    let place : vec_len c.answer_twice.new.calls + c.self.inside.out + life_taken c.args.event.now ≤ vec_capacity c.answer_twice.new.calls = c.in_ok-reply.ensures.place in (
      recorded_more (g.T.Table.base c.self.inside.live) (g.T.Table.base c.answer_twice.new.live) live c.self.inside.calls.items c.answer_twice.new.calls.items c.push_reserved.new.self.items c.record_of.result c.args.seat c.args.event.now reply next c.answer_twice.ensures.base c.push_reserved.ensures.items c.answer_twice.ensures.items (recorded_so c.in-Ok.call c.record_of.result c.args.seat c.args.event.now c.in_ok-reply.reply c.in-Ok.ensures.call c.record_of.ensures) c.self.invariant.0 c.requires c.in_ok-reply.ensures.lives c.in_ok-reply.ensures.ok,
      places-recorded live c.args.event.now reply next (vec_len c.answer_twice.new.calls) (vec_capacity c.answer_twice.new.calls) c.self.inside.out (vec_len c.push_reserved.new.self) (vec_capacity c.push_reserved.new.self) c.out_after-self-inside.result c.self.invariant.0.live_legal c.in_ok-reply.ensures.ok c.self.invariant.1.counted place c.push_reserved.ensures.len c.push_reserved.ensures.capacity c.out_after-self-inside.ensures,
    )

pub returns-clause-book : goal.returns-clause-book
returns-clause-book g c =
    let live : State = g.T.Table.state c.self.inside.live in
    let next : State = g.T.Table.state c.answer_twice.new.live in
    recorded_more (g.T.Table.base c.self.inside.live) (g.T.Table.base c.answer_twice.new.live) live c.self.inside.calls.items c.answer_twice.new.calls.items c.push_reserved.new.self.items c.record_of.result c.args.seat c.args.event.now c.in_ok-reply.reply next c.answer_twice.ensures.base c.push_reserved.ensures.items c.answer_twice.ensures.items (recorded_so c.in-Ok.call c.record_of.result c.args.seat c.args.event.now c.in_ok-reply.reply c.in-Ok.ensures.call c.record_of.ensures) c.self.invariant.0 c.requires c.in_ok-reply.ensures.lives c.in_ok-reply.ensures.ok

pub record_of-requires : goal.record_of-requires
record_of-requires g c =
    let live : State = g.T.Table.state c.self.inside.live in
    let next : State = g.T.Table.state c.answer_twice.new.live in
    tells_so c.in-Ok.call live c.args.seat c.args.event.now c.in_ok-reply.reply next c.in-Ok.ensures.call c.in_ok-reply.ensures.ok

pub push_reserved-requires : goal.push_reserved-requires
push_reserved-requires g c =
    let live : State = g.T.Table.state c.self.inside.live in
    let next : State = g.T.Table.state c.answer_twice.new.live in
    let place : vec_len c.answer_twice.new.calls + c.self.inside.out + life_taken c.args.event.now ≤ vec_capacity c.answer_twice.new.calls = c.in_ok-reply.ensures.place in
    let left : vec_len c.answer_twice.new.calls + 1 ≤ vec_capacity c.answer_twice.new.calls =
    place_left live c.args.event.now c.in_ok-reply.reply next (vec_len c.answer_twice.new.calls) (vec_capacity c.answer_twice.new.calls) c.self.inside.out c.self.invariant.0.live_legal c.in_ok-reply.ensures.ok c.self.invariant.1.counted place in
    omega (arith, left)

pub returns-clause-ok : goal.returns-clause-ok
returns-clause-ok g c =
    let live : State = g.T.Table.state c.self.inside.live in
    let next : State = g.T.Table.state c.answer_twice.new.live in
    extended (g.T.Table.base c.self.inside.live) (g.T.Table.base c.answer_twice.new.live) live c.self.inside.calls.items c.answer_twice.new.calls.items c.push_reserved.new.self.items c.record_of.result c.args.seat c.args.event.now c.in_ok-reply.reply next c.args.self.now c.self.view_is c.answer_twice.ensures.base c.push_reserved.ensures.items c.answer_twice.ensures.items (recorded_so c.in-Ok.call c.record_of.result c.args.seat c.args.event.now c.in_ok-reply.reply c.in-Ok.ensures.call c.record_of.ensures) c.in_ok-reply.ensures.ok
