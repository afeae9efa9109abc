use Rattle.std.proofs.Common.{subst}
use Rattle.expiry_order.specs.Links.{slots_from, IsLinked}
use Rattle.entry_pool.specs.declared.slot_handle.TheConstants.{NONE}
use Rattle.entry_pool.proofs.DistinctSlots.{cut_at}
use Rattle.expiry_order.proofs.LinkLemmas.{within}
use Rattle.expiry_order.proofs.Order.front.Goals as goal

pub returns-clause-queue : goal.returns-clause-queue
returns-clause-queue c =
    let o = c.self.inside in
    rw (← c.self.view_is) (record {
      distinct = c.self.invariant.2;
      below = λ slot found.
          let cut = cut_at (slots_from o.links.items o.front) slot found in
          (within o.links.items cut.front cut.back o.front o.back slot (subst (IsLinked o.links.items NONE o.front o.back NONE) cut.is c.self.invariant.1)).inside;
    })
