use Rattle.std.proofs.Common.{◌<◌, ◌∙◌, length, set, arith, length-set}
use Rattle.std.specs.List.{Contains}
use Rattle.expiry_order.specs.Queue.{queue}
use Rattle.expiry_order.specs.Links.{slots_from}
use Rattle.entry_pool.specs.declared.slot_handle.TheConstants.{NONE}
use Rattle.entry_pool.proofs.DistinctSlots.{off_from_absent}
use Rattle.expiry_order.proofs.LinkLemmas.{order_is, order-joined, invariant_from, last_inside, length-with_next}
use Rattle.expiry_order.proofs.Order.push_back.Goals as goal

pub set_next-requires : goal.set_next-requires
set_next-requires c some =
    let o = c.self.inside in
    let was = order_is o.links.items o.front o.back c.self.invariant in
    omega (arith, last_inside o.links.items (slots_from o.links.items o.front) o.front o.back NONE was.linked some, o.links.ok)

pub invariant_of-self : goal.invariant_of-self
invariant_of-self c =
    let o = c.self.inside in let slots = slots_from o.links.items o.front in
    let was = order_is o.links.items o.front o.back c.self.invariant in
    let inside : c.args.slot < length o.links.items = rw (← c.self.view_is) at c.requires.below in
    let absent : Contains slots c.args.slot → ⊥ = rw (← c.self.view_is) at c.requires.absent in
    let now = order-joined o.links.items o.front o.back c.args.slot slots was (off_from_absent slots c.args.slot absent) inside in
    rw (c.set_next.ensures.links, c.set_next.ensures.front) (invariant_from _ _ _ _ now)

pub returns : goal.returns
returns c =
    let o = c.self.inside in let slots = slots_from o.links.items o.front in
    let was = order_is o.links.items o.front o.back c.self.invariant in
    let inside : c.args.slot < length o.links.items = rw (← c.self.view_is) at c.requires.below in
    let absent : Contains slots c.args.slot → ⊥ = rw (← c.self.view_is) at c.requires.absent in
    let now = order-joined o.links.items o.front o.back c.args.slot slots was (off_from_absent slots c.args.slot absent) inside in
    let long = length-with_next (set o.links.items c.args.slot record { next = NONE; previous = o.back }) o.back c.args.slot ∙ length-set o.links.items c.args.slot record { next = NONE; previous = o.back } in
    rw (← c.self.view_is, c.set_next.ensures.links, c.set_next.ensures.front) (λ i. queue (long i) (now.walked i))
