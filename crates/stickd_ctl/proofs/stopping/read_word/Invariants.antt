use Rattle.std.proofs.Common.{◌-◌}
use Rattle.stickd_ctl.proofs.stopping.read_word.Given as goal

-- the room that is left for more
abbrev pub decreases-loop-count : goal.decreases-loop-count
decreases-loop-count l = 64 - l.count
