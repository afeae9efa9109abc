use Rattle.std.proofs.Common.{refl, sym, ◌∙◌, subst, arith}
use Rattle.stick_pooled.proofs.UsedLemmas.{IsWalk, walk-begins, walk-some, walk-queued, walk-counts, walk-goes, walk-stops, walk-ends}
use Rattle.stick_pooled.proofs.listing.count_live.Goals as goal

pub loop-next-init : goal.loop-next-init
loop-next-init c = walk-begins c.args.store.now c.args.expire c.args.clock c.front-next.ensures.stock c.len-live.result c.front-next.result c.len-live.ensures c.front-next.ensures.first

pub entry-requires : goal.entry-requires
entry-requires c =
    let walk = subst (IsWalk c.args.store.now c.args.expire c.args.clock c.loop-next.live) c.in-Some.is c.loop-next.invariant in
    walk-some c.args.store.now c.args.expire c.args.clock c.loop-next.live c.in-Some.slot walk c.front-next.ensures.stock

pub after-next-requires : goal.after-next-requires
after-next-requires c =
    let walk = subst (IsWalk c.args.store.now c.args.expire c.args.clock c.loop-next.live) c.in-Some.is c.loop-next.invariant in
    walk-queued c.args.store.now c.args.expire c.args.clock c.loop-next.live c.in-Some.slot walk

pub overflow_sub-live : goal.overflow_sub-live
overflow_sub-live c =
    let walk = subst (IsWalk c.args.store.now c.args.expire c.args.clock c.loop-next.live) c.in-Some.is c.loop-next.invariant in
    walk-counts c.args.store.now c.args.expire c.args.clock c.loop-next.live c.in-Some.slot walk c.entry.result c.entry.ensures c.front-next.ensures.stock (sym c.is_alive.ensures ∙ c.if-is_alive.false)

pub returns-then-is_alive : goal.returns-then-is_alive
returns-then-is_alive c =
    let walk = subst (IsWalk c.args.store.now c.args.expire c.args.clock c.loop-next.live) c.in-Some.is c.loop-next.invariant in
    walk-stops c.args.store.now c.args.expire c.args.clock c.loop-next.live c.in-Some.slot walk c.entry.result c.entry.ensures c.requires.rising (sym c.is_alive.ensures ∙ c.if-is_alive.true)

pub loop-next-smaller : goal.loop-next-smaller
loop-next-smaller c =
    let walk = subst (IsWalk c.args.store.now c.args.expire c.args.clock c.loop-next.live) c.in-Some.is c.loop-next.invariant in
    let some = walk-counts c.args.store.now c.args.expire c.args.clock c.loop-next.live c.in-Some.slot walk c.entry.result c.entry.ensures c.front-next.ensures.stock (sym c.is_alive.ensures ∙ c.if-is_alive.false) in
    omega (arith, some)

pub loop-next-preserved : goal.loop-next-preserved
loop-next-preserved c =
    let walk = subst (IsWalk c.args.store.now c.args.expire c.args.clock c.loop-next.live) c.in-Some.is c.loop-next.invariant in
    walk-goes c.args.store.now c.args.expire c.args.clock c.loop-next.live c.in-Some.slot walk c.entry.result c.entry.ensures c.front-next.ensures.stock (sym c.is_alive.ensures ∙ c.if-is_alive.false) _ c.after-next.result refl c.after-next.ensures

pub returns : goal.returns
returns c =
    walk-ends c.args.store.now c.args.expire c.args.clock c.loop-next.live (subst (IsWalk c.args.store.now c.args.expire c.args.clock c.loop-next.live) c.in_default.is c.loop-next.invariant)
