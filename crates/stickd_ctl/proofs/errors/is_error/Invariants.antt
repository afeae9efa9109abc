use Rattle.std.proofs.Common.{◌≡◌, length}
use Rattle.std.specs.List.{list_any}
use Rattle.base_lines.specs.Parts.{parts, is_line_end}
use Rattle.stickd_ctl.specs.Errors.{is_error_line}
use Rattle.stickd_ctl.proofs.errors.is_error.Given as goal

-- no line so far says so
abbrev pub invariant-loop-line : goal.invariant-loop-line
invariant-loop-line l = list_any is_error_line l.lines ≡ list_any is_error_line (parts is_line_end l.answer)

abbrev pub decreases-loop-line : goal.decreases-loop-line
decreases-loop-line l = length l.lines
