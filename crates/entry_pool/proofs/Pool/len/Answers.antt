use Rattle.std.proofs.Common.{sym, ◌∙◌}
use Rattle.entry_pool.proofs.FindLemmas.{is_pool}
use Rattle.entry_pool.proofs.SlotLemmas.{shown_count}
use Rattle.entry_pool.proofs.Pool.len.Goals as goal

pub returns : goal.returns
returns g c =
    let p = c.self.inside in let sound = c.self.invariant.2 in
    rw (← c.self.view_is) (record { count = sound.counted ∙ sym (shown_count p.block.items); pool = is_pool p.block.items p.links.items p.capacity p.first_free p.count p.newest.value sound })
