use Rattle.std.proofs.Common.{◌≡◌, ◌+◌, length}
use Rattle.base_lines.specs.Parts.{is_line_end, parts}
use Rattle.stickd_ctl.proofs.window.count_lines.Given as goal

-- the lines so far, and those that are left
abbrev pub invariant-loop-lines : goal.invariant-loop-lines
invariant-loop-lines l = l.count + length l.lines ≡ length (parts is_line_end l.text)

abbrev pub decreases-loop-lines : goal.decreases-loop-lines
decreases-loop-lines l = length l.lines
