use Rattle.std.proofs.Common.{refl, length, sym, arith, subst, eqb}
use Rattle.std.specs.List.{IsDistinct}
use Rattle.expiry_order.specs.Links.{IsLinked}
use Rattle.entry_pool.specs.declared.slot_handle.TheConstants.{NONE}
use Rattle.entry_pool.proofs.DistinctSlots.{distinct-none}
use Rattle.expiry_order.proofs.LinkLemmas.{walk-none}
use Rattle.expiry_order.proofs.Order.new.Goals as goal

pub invariant_of-result : goal.invariant_of-result
invariant_of-result c =
    let links = c.in_ok-from_elem.field-0.items in
    let none = walk-none links (length links) in
    (omega (arith, c.in_ok-from_elem.ensures.len), subst (IsLinked links NONE NONE NONE NONE) (sym none) (refl, refl), subst (IsDistinct eqb) (sym none) distinct-none)
