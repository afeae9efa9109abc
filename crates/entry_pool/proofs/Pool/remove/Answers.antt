use Rattle.std.proofs.Common.{None, IsSome, refl, sym, ap, subst, ◌∙◌, set, arith}
use Rattle.std.proofs.lemmas.List.{get_or-set_same, map-set}
use Rattle.entry_pool.specs.Contents.{find}
use Rattle.entry_pool.specs.Slots.{shown}
use Rattle.entry_pool.proofs.FindLemmas.{find_at, found_live, some_copied}
use Rattle.entry_pool.proofs.SlotLemmas.{get_within}
use Rattle.entry_pool.proofs.SoundLemmas.{sound_vacate}
use Rattle.entry_pool.proofs.Pool.remove.Goals as goal

pub invariant_of-self : goal.invariant_of-self
invariant_of-self g c =
    let p = c.self.inside in let i = c.self.invariant in let taken = c.take-value.ensures in
    rw taken.1 (i.0, i.1, sound_vacate p.block.items p.links.items p.capacity p.first_free p.count p.newest.value i.2 c.args.handle.slot c.take-value.result taken.0)

pub returns-clause-removed : goal.returns-clause-removed
returns-clause-removed g c = let p = c.self.inside in rw (← c.self.view_is, c.take-value.ensures.1, map-set shown p.block.items c.args.handle.slot None) (λ _. refl)

pub returns-clause-gone : goal.returns-clause-gone
returns-clause-gone g c =
    let p = c.self.inside in let h = c.args.handle in
    let some = subst IsSome (c.get.ensures ∙ ap (λ o. find o h) (sym c.self.view_is)) (some_copied c.get.result c.if-is_none.ensures) in
    let found = found_live p.block.items p.capacity p.newest.value h.slot h.generation some in
    let within = get_within p.block.items h.slot found.live found.there in
    rw c.take-value.ensures.1 (λ _. record {
      used = omega (arith, c.self.invariant.2.dated h.slot found.live found.there, found.dated);
      nothing = find_at (set p.block.items h.slot None) p.capacity p.newest.value h.slot h.generation None (get_or-set_same p.block.items h.slot None None within);
    })
