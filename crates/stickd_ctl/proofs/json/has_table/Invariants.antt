use Rattle.std.proofs.Common.{◌≡◌, length}
use Rattle.std.specs.List.{list_any}
use Rattle.base_lines.specs.Parts.{parts, is_line_end}
use Rattle.stickd_ctl.specs.Json.{is_table}
use Rattle.stickd_ctl.proofs.json.has_table.Given as goal

-- no line so far is a table's
abbrev pub invariant-loop-line : goal.invariant-loop-line
invariant-loop-line l = list_any is_table l.lines ≡ list_any is_table (parts is_line_end l.answer)

abbrev pub decreases-loop-line : goal.decreases-loop-line
decreases-loop-line l = length l.lines
