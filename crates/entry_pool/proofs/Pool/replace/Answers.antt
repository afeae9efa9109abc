use Rattle.std.proofs.Common.{◌≡◌, Some, None, is_some, refl, sym, ap, ◌∙◌, arith, length-set}
use Rattle.std.proofs.lemmas.List.{get_or-set_same, set-set}
use Rattle.entry_pool.specs.declared.Live.{Live}
use Rattle.entry_pool.proofs.FindLemmas.{found_live, find_live, rewritten}
use Rattle.entry_pool.proofs.SlotLemmas.{same_some, get_within}
use Rattle.entry_pool.proofs.SoundLemmas.{sound_rewrite}
use Rattle.entry_pool.proofs.Pool.replace.Goals as goal

pub take-live-requires : goal.take-live-requires
take-live-requires g c =
    let p = c.self.inside in let h = c.args.handle in
    let found = found_live p.block.items p.capacity p.newest.value h.slot h.generation (rw (← c.self.view_is) at c.requires) in
    ap is_some found.there

pub write-requires : goal.write-requires
write-requires g c =
    let p = c.self.inside in let at = c.args.handle.slot in let live = c.take-live.result in
    let within = get_within p.block.items at live c.take-live.ensures.0 in
    rw c.take-live.ensures.1 (omega (arith, length-set p.block.items at None, within), get_or-set_same p.block.items at None None within)

pub invariant_of-self : goal.invariant_of-self
invariant_of-self g c =
    let p = c.self.inside in let i = c.self.invariant in let at = c.args.handle.slot in let live = c.take-live.result in
    let new : Live g.row.T.Denot = record live { value = c.args.value } in
    rw (c.write.ensures, c.take-live.ensures.1, set-set p.block.items at None (Some new)) (
      i.0,
      i.1,
      sound_rewrite p.block.items p.links.items p.capacity p.first_free p.count p.newest.value i.2 at live new c.take-live.ensures.0 refl,
    )

pub returns-clause-before : goal.returns-clause-before
returns-clause-before g c =
    let p = c.self.inside in let h = c.args.handle in let live = c.take-live.result in let there = c.take-live.ensures.0 in
    let found = found_live p.block.items p.capacity p.newest.value h.slot h.generation (rw (← c.self.view_is) at c.requires) in
    let dated : live.generation ≡ h.generation = ap (λ (l : Live g.row.T.Denot). l.generation) (same_some (sym there ∙ found.there)) ∙ found.dated in
    rw (← c.self.view_is) (find_live p.block.items p.capacity p.newest.value h.slot h.generation live there dated)

pub returns-clause-replaced : goal.returns-clause-replaced
returns-clause-replaced g c =
    let p = c.self.inside in let h = c.args.handle in let live = c.take-live.result in let there = c.take-live.ensures.0 in
    let new : Live g.row.T.Denot = record live { value = c.args.value } in
    let found = found_live p.block.items p.capacity p.newest.value h.slot h.generation (rw (← c.self.view_is) at c.requires) in
    let dated : live.generation ≡ h.generation = ap (λ (l : Live g.row.T.Denot). l.generation) (same_some (sym there ∙ found.there)) ∙ found.dated in
    rw (← c.self.view_is, c.write.ensures, c.take-live.ensures.1, set-set p.block.items h.slot None (Some new), rewritten p.block.items h.slot h.generation live c.args.value dated) refl
