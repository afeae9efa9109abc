use Rattle.std.proofs.Common.{length}
use Rattle.stickd_ctl.proofs.saving.names_in.Given as goal

abbrev pub decreases-loop-line : goal.decreases-loop-line
decreases-loop-line l = length l.lines
