use Rattle.std.proofs.Common.{◌≡◌, ◌+◌, sym, subst, ◌∙◌, arith}
use Rattle.stick_pooled.specs.Space.{IsPurged}
use Rattle.stick_pooled.proofs.GoneLemmas.{AreGone, none-gone, one-gone, purged-all, purged-early}
use Rattle.stick_pooled.proofs.room.purge_oldest.Goals as goal

pub loop-round-init : goal.loop-round-init
loop-round-init c = none-gone c.args.store.now c.requires.stock c.requires.rising

pub loop-round-preserved : goal.loop-round-preserved
loop-round-preserved c =
    subst (AreGone (c.loop-round._round + 1) c.args.store.now) (sym (c.note_purged.ensures ∙ c.remove.ensures))
    (one-gone c.loop-round._round c.args.store.now c.loop-round.store c.loop-round.invariant c.in-Some.front (sym c.in-Some.ensures.first))

pub returns-in_default : goal.returns-in_default
returns-in_default c =
    purged-early c.loop-round._round c.args.store.now c.loop-round.store c.loop-round.invariant c.args.purge (omega (arith, c.loop-round-test.true)) (sym c.front.ensures.first ∙ c.in_default.is)

pub returns : goal.returns
returns c =
    let through = c.loop-round-test.false in
    let most = c.loop-round.auto._round-end in
    let all : c.loop-round._round ≡ c.args.purge = omega (arith, through, most) in
    subst (λ n. IsPurged n c.args.store.now c.loop-round.store) all (purged-all c.loop-round._round c.args.store.now c.loop-round.store c.loop-round.invariant)
