use Rattle.std.proofs.Common.{◌≡◌, is_some, sym, ap, ◌∙◌}
use Rattle.entry_pool.specs.declared.Live.{Live}
use Rattle.entry_pool.proofs.FindLemmas.{found_live, find_live}
use Rattle.entry_pool.proofs.SlotLemmas.{same_some}
use Rattle.entry_pool.proofs.Pool.value.Goals as goal

pub get-requires : goal.get-requires
get-requires g c =
    let p = c.self.inside in let h = c.args.handle in
    let found = found_live p.block.items p.capacity p.newest.value h.slot h.generation (rw (← c.self.view_is) at c.requires) in
    ap is_some found.there

pub returns : goal.returns
returns g c =
    let p = c.self.inside in let h = c.args.handle in let live = c.get.result.now in let there = c.get.ensures in
    let found = found_live p.block.items p.capacity p.newest.value h.slot h.generation (rw (← c.self.view_is) at c.requires) in
    let dated : live.generation ≡ h.generation = ap (λ (l : Live g.row.T.Denot). l.generation) (same_some (sym there ∙ found.there)) ∙ found.dated in
    rw (← c.self.view_is) (find_live p.block.items p.capacity p.newest.value h.slot h.generation live there dated)
