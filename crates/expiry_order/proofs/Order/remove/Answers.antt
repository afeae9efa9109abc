use Rattle.std.proofs.Common.{◌≢◌, ◌<◌, ◌∙◌, length, sym, ap, subst, arith}
use Rattle.expiry_order.specs.Queue.{queue, without}
use Rattle.expiry_order.specs.Links.{link, slots_from, IsLinked, with_next}
use Rattle.entry_pool.specs.declared.slot_handle.TheConstants.{NONE}
use Rattle.entry_pool.proofs.DistinctSlots.{cut_at, distinct-cut}
use Rattle.expiry_order.proofs.SlotLemmas.{without-cut}
use Rattle.expiry_order.proofs.LinkLemmas.{IsOrder, order_is, order-left_out, invariant_from, within, first_inside, link_read, length-with_next, length-with_previous}
use Rattle.expiry_order.proofs.Order.remove.Goals as goal

pub index-requires : goal.index-requires
index-requires c =
    let o = c.self.inside in
    let cut = cut_at (slots_from o.links.items o.front) c.args.slot (rw (← c.self.view_is) at c.requires) in
    let linked = subst (IsLinked o.links.items NONE o.front o.back NONE) cut.is c.self.invariant.1 in
    omega (arith, (within o.links.items cut.front cut.back o.front o.back c.args.slot linked).inside, o.links.ok)

pub set_next-requires : goal.set_next-requires
set_next-requires c =
    let o = c.self.inside in
    let cut = cut_at (slots_from o.links.items o.front) c.args.slot (rw (← c.self.view_is) at c.requires) in
    let linked = subst (IsLinked o.links.items NONE o.front o.back NONE) cut.is c.self.invariant.1 in
    let here = within o.links.items cut.front cut.back o.front o.back c.args.slot linked in
    let read = link_read o.links.items c.args.slot c.index.result.now here.inside c.index.ensures in
    rw read (λ some. omega (arith, here.previous some, o.links.ok))

pub set_previous-requires : goal.set_previous-requires
set_previous-requires c =
    let o = c.self.inside in
    let cut = cut_at (slots_from o.links.items o.front) c.args.slot (rw (← c.self.view_is) at c.requires) in
    let linked = subst (IsLinked o.links.items NONE o.front o.back NONE) cut.is c.self.invariant.1 in
    let here = within o.links.items cut.front cut.back o.front o.back c.args.slot linked in
    let read = link_read o.links.items c.args.slot c.index.result.now here.inside c.index.ensures in
    let long = ap length c.set_next.ensures.links ∙ length-with_next o.links.items c.index.result.now.previous c.index.result.now.next in
    let inside : c.index.result.now.next ≢ NONE → c.index.result.now.next < length o.links.items =
    rw read (first_inside o.links.items cut.back c.args.slot (link o.links.items c.args.slot).next o.back here.behind) in
    λ some. omega (arith, inside some, c.set_next.new.links.ok)

pub invariant_of-self : goal.invariant_of-self
invariant_of-self c =
    let o = c.self.inside in
    let cut = cut_at (slots_from o.links.items o.front) c.args.slot (rw (← c.self.view_is) at c.requires) in
    let was = subst (IsOrder o.links.items o.front o.back) cut.is (order_is o.links.items o.front o.back c.self.invariant) in
    let here = within o.links.items cut.front cut.back o.front o.back c.args.slot was.linked in
    let read = link_read o.links.items c.args.slot c.index.result.now here.inside c.index.ensures in
    let now = order-left_out o.links.items o.front o.back c.args.slot cut.front cut.back was in
    rw (c.set_previous.ensures.links, c.set_previous.ensures.back, c.set_next.ensures.links, c.set_next.ensures.front, read) (invariant_from _ _ _ _ now)

pub returns : goal.returns
returns c =
    let o = c.self.inside in
    let cut = cut_at (slots_from o.links.items o.front) c.args.slot (rw (← c.self.view_is) at c.requires) in
    let was = subst (IsOrder o.links.items o.front o.back) cut.is (order_is o.links.items o.front o.back c.self.invariant) in
    let apart = distinct-cut cut.front cut.back c.args.slot was.distinct in
    let here = within o.links.items cut.front cut.back o.front o.back c.args.slot was.linked in
    let read = link_read o.links.items c.args.slot c.index.result.now here.inside c.index.ensures in
    let now = order-left_out o.links.items o.front o.back c.args.slot cut.front cut.back was in
    let l = link o.links.items c.args.slot in
    let long = length-with_previous (with_next o.links.items l.previous l.next) l.next l.previous ∙ length-with_next o.links.items l.previous l.next in
    let gone = ap (λ s. without s c.args.slot) cut.is ∙ without-cut cut.front cut.back c.args.slot apart.before apart.behind in
    rw (← c.self.view_is, c.set_previous.ensures.links, c.set_next.ensures.links, c.set_next.ensures.front, read)
    (λ i. queue (long i) ((now.walked ∙ sym gone) i))
