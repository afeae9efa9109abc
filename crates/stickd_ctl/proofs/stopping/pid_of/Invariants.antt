use Rattle.std.proofs.Common.{◌≡◌, length, codes}
use Rattle.base_lines.specs.Parts.{parts, is_line_end}
use Rattle.stickd_ctl.specs.Stopping.{number_named}
use Rattle.stickd_ctl.proofs.stopping.pid_of.Given as goal

-- no line so far has the name
abbrev pub invariant-loop-line : goal.invariant-loop-line
invariant-loop-line l = number_named (codes "Pid: ") l.lines ≡ number_named (codes "Pid: ") (parts is_line_end l.answer)

abbrev pub decreases-loop-line : goal.decreases-loop-line
decreases-loop-line l = length l.lines
