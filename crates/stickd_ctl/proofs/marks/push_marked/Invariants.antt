use Rattle.std.proofs.Common.{◌≡◌, ◌++◌, length}
use Rattle.stickd_ctl.specs.Marks.{marked, marked_lines}
use Rattle.stickd_ctl.proofs.marks.push_marked.Given as goal

-- the lines so far, and those that are left
abbrev pub invariant-loop-line : goal.invariant-loop-line
invariant-loop-line l = l.text.items ++ marked_lines l.last l.lines ≡ l.fn.text.items ++ marked l.last l.answer

abbrev pub decreases-loop-line : goal.decreases-loop-line
decreases-loop-line l = length l.lines
