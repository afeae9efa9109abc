use Rattle.std.proofs.Common.{◌≡◌, length}
use Rattle.std.specs.List.{list_any}
use Rattle.base_lines.specs.Parts.{parts, is_line_end}
use Rattle.stickd_ctl.specs.Marks.{is_aged}
use Rattle.stickd_ctl.proofs.marks.has_line.Given as goal

-- no line so far says the same
abbrev pub invariant-loop-other : goal.invariant-loop-other
invariant-loop-other l = list_any (λ other. is_aged other l.line) l.lines ≡ list_any (λ other. is_aged other l.line) (parts is_line_end l.text)

abbrev pub decreases-loop-other : goal.decreases-loop-other
decreases-loop-other l = length l.lines
