use Rattle.std.proofs.Common.{length}
use Rattle.stickd_input.proofs.habits.is_foreign.Given as goal

abbrev pub decreases-loop-line : goal.decreases-loop-line
decreases-loop-line l = length l.lines
