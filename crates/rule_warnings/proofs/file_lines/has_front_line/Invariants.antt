use Rattle.std.proofs.Common.{◌≡◌, length}
use Rattle.rule_warnings.specs.FileLines.{has_front_line}
use Rattle.rule_warnings.proofs.file_lines.has_front_line.Given as goal

-- what the lines that are left tell, all of them do
abbrev pub invariant-loop-line : goal.invariant-loop-line
invariant-loop-line l = has_front_line l.lines ≡ has_front_line l.fn.lines

abbrev pub decreases-loop-line : goal.decreases-loop-line
decreases-loop-line l = length l.lines
