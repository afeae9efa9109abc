use Rattle.std.proofs.Common.{◌≡◌, [], ◌∷◌, length, ap, arith, length-append}
use Rattle.entry_pool.proofs.SoundLemmas.{counting_more, counting_end}
use Rattle.entry_pool.proofs.free_links.Goals as goal

pub loop-next-init : goal.loop-next-init
loop-next-init c =
    let none : length c.in_ok-links.links.items ≡ 0 = ap length c.in_ok-links.ensures.items in
    record { long = omega (arith, none); counting = λ slot within. absurd (omega (arith, within, none)); room = c.in_ok-links.ensures.capacity }

pub push_reserved-requires : goal.push_reserved-requires
push_reserved-requires c = omega (arith, c.loop-next.invariant.long, c.loop-next.invariant.room, c.loop-next.links.ok, c.loop-next-test.true)

pub loop-next-preserved : goal.loop-next-preserved
loop-next-preserved c =
    let i = c.loop-next.invariant in let xs = c.loop-next.links.items in let items = c.push_reserved.ensures.items in
    record {
      long = omega (arith, ap length items, length-append xs (c.loop-next.next ∷ []), i.long);
      counting = rw items (counting_more xs c.loop-next.next i.counting i.long);
      room = omega (arith, i.room, c.push_reserved.ensures.capacity);
    }

pub push_reserved-requires-2 : goal.push_reserved-requires-2
push_reserved-requires-2 c =
    omega (arith, c.requires, c.loop-next.invariant.long, c.loop-next.invariant.room, c.loop-next.links.ok, c.loop-next.auto.next, c.loop-next.auto.next-end (omega (arith, c.requires)))

pub returns : goal.returns
returns c =
    let i = c.loop-next.invariant in let most = c.loop-next.auto.next-end (omega (arith, c.requires)) in let through = c.loop-next-test.false in
    rw c.push_reserved-2.ensures.items (counting_end c.loop-next.links.items c.args.capacity i.counting (omega (arith, i.long, most, through)))
