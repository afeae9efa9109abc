use Rattle.std.proofs.Common.{◌≡◌, Some, IsSome, refl, sym, ap, subst, ◌∙◌, inl}
use Rattle.entry_pool.specs.declared.Live.{Live}
use Rattle.entry_pool.proofs.FindLemmas.{found_live, find_live, rewritten, some_copied}
use Rattle.entry_pool.proofs.SlotLemmas.{same_some}
use Rattle.entry_pool.proofs.SoundLemmas.{sound_rewrite}
use Rattle.entry_pool.proofs.Pool.get_mut.Goals as goal

pub invariant_of-self-lent : goal.invariant_of-self-lent
invariant_of-self-lent g c w =
    let p = c.self.inside in let i = c.self.invariant in let live = c.get_mut.result.now in (
      i.0,
      i.1,
      sound_rewrite p.block.items p.links.items p.capacity p.first_free p.count p.newest.value i.2 c.args.handle.slot live (record live { value = w }) c.get_mut.ensures.value refl,
    )

pub returns : goal.returns
returns g c =
    let p = c.self.inside in let h = c.args.handle in let live = c.get_mut.result.now in let there = c.get_mut.ensures.value in
    let some = subst IsSome c.get.ensures (some_copied c.get.result c.if-is_none.ensures) in
    let found = found_live p.block.items p.capacity p.newest.value h.slot h.generation some in
    let dated : live.generation ≡ h.generation = ap (λ (l : Live g.row.T.Denot). l.generation) (same_some (sym there ∙ found.there)) ∙ found.dated in
    rw (← c.self.view_is) (
      (λ i. inl (c.value_mut.result.ghost_name, λ w. record { capacity = p.capacity; newest = p.newest.value; slots = rewritten p.block.items h.slot h.generation live w dated i })),
      record { writes_back = tt; value = sym (find_live p.block.items p.capacity p.newest.value h.slot h.generation live there dated ∙ ap Some (sym c.value_mut.ensures.value)) },
    )
