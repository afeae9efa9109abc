use Rattle.std.proofs.Common.{rules}
use Rattle.stickd_ctl.proofs.WindowLemmas.{one_more}
use Rattle.stickd_ctl.proofs.window.push_cut.Goals as goal

pub loop-place-preserved : goal.loop-place-preserved
loop-place-preserved c = one_more _ _ _ _ _ _ _ _ _ c.loop-place-test.true (search rules) c.in_ok-push_cut_line.ensures c.loop-place.invariant
