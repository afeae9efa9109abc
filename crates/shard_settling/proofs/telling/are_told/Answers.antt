use Rattle.std.proofs.Common.{◌≤◌, length, subst, arith, rules}
use Rattle.std.proofs.lemmas.List.{take_all}
use Rattle.shard_settling.proofs.SeatsLemmas.{AllTold, told_iff}
use Rattle.shard_settling.proofs.telling.are_told.Goals as goal

pub returns-then-not-told : goal.returns-then-not-told
returns-then-not-told g c = told_iff _ c.args.shard c.args.seats.now c.args.calls.now c.args.replies.now (search rules)

pub returns : goal.returns
returns g c =
    let seats = c.args.seats.now in
    let through : length seats ≤ c.loop-seat.seat-index = omega (arith, c.loop-seat-test.false) in
    let all : AllTold c.args.shard seats c.args.calls.now c.args.replies.now =
    subst (λ xs. AllTold c.args.shard xs c.args.calls.now c.args.replies.now) (take_all c.loop-seat.seat-index seats through) c.loop-seat.invariant in
    told_iff _ c.args.shard seats c.args.calls.now c.args.replies.now (search rules)
