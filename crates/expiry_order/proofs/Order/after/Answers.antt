use Rattle.std.proofs.Common.{◌∙◌, sym, ap, subst, arith}
use Rattle.expiry_order.specs.Queue.{slot_after}
use Rattle.expiry_order.specs.Links.{link, slots_from, IsLinked, slot_or_none}
use Rattle.expiry_order.specs.declared.Link.{Link}
use Rattle.entry_pool.specs.declared.slot_handle.TheConstants.{NONE}
use Rattle.entry_pool.proofs.DistinctSlots.{cut_at, distinct-cut}
use Rattle.expiry_order.proofs.SlotLemmas.{slot_after-cut}
use Rattle.expiry_order.proofs.LinkLemmas.{order_is, within, first_slot, link_read}
use Rattle.expiry_order.proofs.Order.after.Goals as goal

pub index-requires : goal.index-requires
index-requires c =
    let o = c.self.inside in
    let cut = cut_at (slots_from o.links.items o.front) c.args.slot (rw (← c.self.view_is) at c.requires) in
    let linked = subst (IsLinked o.links.items NONE o.front o.back NONE) cut.is c.self.invariant.1 in
    omega (arith, (within o.links.items cut.front cut.back o.front o.back c.args.slot linked).inside, o.links.ok)

pub returns : goal.returns
returns c =
    let o = c.self.inside in
    let was = order_is o.links.items o.front o.back c.self.invariant in
    let cut = cut_at (slots_from o.links.items o.front) c.args.slot (rw (← c.self.view_is) at c.requires) in
    let linked = subst (IsLinked o.links.items NONE o.front o.back NONE) cut.is was.linked in
    let here = within o.links.items cut.front cut.back o.front o.back c.args.slot linked in
    let apart = distinct-cut cut.front cut.back c.args.slot (rw cut.is at was.distinct) in
    let read = link_read o.links.items c.args.slot c.index.result.now here.inside c.index.ensures in
    rw (← c.self.view_is) (
    c.some_slot.ensures ∙ ap (λ (l : Link). slot_or_none l.next) read
    ∙ first_slot o.links.items cut.back c.args.slot (link o.links.items c.args.slot).next o.back was.small here.behind
    ∙ sym (slot_after-cut cut.front cut.back c.args.slot apart.before)
    ∙ ap (λ l. slot_after l c.args.slot) (sym cut.is))
