use Rattle.std.proofs.Common.{◌≡◌, length}
use Rattle.rule_warnings.specs.FileLines.{is_used}
use Rattle.rule_warnings.proofs.file_lines.is_used.Given as goal

-- what the lines that are left tell, all of them do
abbrev pub invariant-loop-line : goal.invariant-loop-line
invariant-loop-line l = is_used l.name l.lines ≡ is_used l.name l.fn.lines

abbrev pub decreases-loop-line : goal.decreases-loop-line
decreases-loop-line l = length l.lines
