use Rattle.std.proofs.Common.{◌≡◌, ◌++◌, length}
use Rattle.std.specs.List.{flat_map}
use Rattle.tcp_stats.specs.Messages.{line_if, line_words}
use Rattle.tcp_stats.proofs.messages.push_lines.Given as goal

-- the lines so far, and those that are left
abbrev pub invariant-loop-line : goal.invariant-loop-line
invariant-loop-line l = l.text.items ++ flat_map (line_if (line_words l.asked)) l.lines ≡ l.fn.text.items ++ flat_map (line_if (line_words l.asked)) l.fn.lines

abbrev pub decreases-loop-line : goal.decreases-loop-line
decreases-loop-line l = length l.lines
