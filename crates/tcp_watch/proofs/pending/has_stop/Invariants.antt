use Rattle.std.proofs.Common.{◌≡◌, length}
use Rattle.base_lines.specs.Parts.{parts, is_line_end}
use Rattle.tcp_watch.specs.Pending.{has_stop}
use Rattle.tcp_watch.proofs.pending.has_stop.Given as goal

-- the lines that are left tell what the whole status tells
abbrev pub invariant-loop-line : goal.invariant-loop-line
invariant-loop-line l = has_stop l.signals l.stop l.lines ≡ has_stop l.signals l.stop (parts is_line_end l.status)

abbrev pub decreases-loop-line : goal.decreases-loop-line
decreases-loop-line l = length l.lines
