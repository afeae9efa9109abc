use Rattle.std.proofs.Common.{refl}
use Rattle.entry_pool.proofs.SlotLemmas.{none_shown}
use Rattle.entry_pool.proofs.SoundLemmas.{sound_new}
use Rattle.entry_pool.proofs.Pool.new.Goals as goal

pub invariant_of-result : goal.invariant_of-result
invariant_of-result g c =
    let made = c.in_ok-block.ensures in
    rw (made.2, c.of.ensures) (made.0, made.1, sound_new c.in_ok-links.links.items c.args.capacity c.in_ok-links.ensures c.requires.positive c.requires.within)

pub returns : goal.returns
returns g c = rw (c.in_ok-block.ensures.2, c.of.ensures, none_shown c.args.capacity) refl
