use Rattle.std.proofs.Common.{◌≡◌, length}
use Rattle.base_lines.specs.Parts.{parts, is_line_end}
use Rattle.table_socket.specs.Groups.{first_group}
use Rattle.table_socket.proofs.group.group_number.Given as goal

-- the lines that are left give what the whole text gives
abbrev pub invariant-loop-line : goal.invariant-loop-line
invariant-loop-line l = first_group l.name l.lines ≡ first_group l.name (parts is_line_end l.text)

abbrev pub decreases-loop-line : goal.decreases-loop-line
decreases-loop-line l = length l.lines
