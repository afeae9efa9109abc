use Rattle.std.proofs.Common.{refl}
use Rattle.tcp_flow.specs.declared.steps.Cause.TheVariants.{Write}
use Rattle.tcp_flow.proofs.MoveLemmas.{turned_after, turned_here, turned_lost, wrote_all, wrote_kept, wrote_room}
use Rattle.tcp_flow.proofs.direction.run.Goals as goal

pub returns-in-Ok-clause-turned : goal.returns-in-Ok-clause-turned
returns-in-Ok-clause-turned g c =
    turned_after _ _ _ _ _ _ _ _ _ _ _ _ (wrote_all _ _ _ _ _ _ _ _ _ _ c.deref.ensures.value (c.requires.kept.going refl) c.drain_all_now.ensures.bytes c.in-Ok.ensures.ok) c.carry_and_keep.ensures.turned

pub returns-in-Err-NotNow-clause-turned : goal.returns-in-Err-NotNow-clause-turned
returns-in-Err-NotNow-clause-turned g c =
    let room = wrote_room _ _ _ _ _ _ _ c.drain_all_now.ensures.bytes c.in-Err-NotNow.ensures.kept (c.requires.kept.going refl) in
    turned_here _ _ _ _ _ _ _ c.drain_all_now.new.self _ c.in-Err-NotNow.ensures.kept room (wrote_kept _ _ _ _ _ _ _ _ _ c.deref.ensures.value (c.requires.kept.going refl) c.drain_all_now.ensures.bytes)

pub returns-in-Err-Failed-clause-turned : goal.returns-in-Err-Failed-clause-turned
returns-in-Err-Failed-clause-turned g c =
    let room = wrote_room _ _ _ _ _ _ _ c.drain_all_now.ensures.bytes c.in-Err-Failed.ensures.kept (c.requires.kept.going refl) in
    turned_lost _ _ _ _ _ _ _ c.drain_all_now.new.self _ _ Write (λ is. cc) c.in-Err-Failed.ensures.kept room c.give_back-in-Err-Failed.ensures
    (wrote_kept _ _ _ _ _ _ _ _ _ c.deref.ensures.value (c.requires.kept.going refl) c.drain_all_now.ensures.bytes)
