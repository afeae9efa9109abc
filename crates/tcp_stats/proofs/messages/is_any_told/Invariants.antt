use Rattle.std.proofs.Common.{◌≡◌, length}
use Rattle.std.specs.List.{list_any}
use Rattle.tcp_stats.specs.Messages.{line_words, tells}
use Rattle.tcp_stats.proofs.messages.is_any_told.Given as goal

-- no line so far
abbrev pub invariant-loop-line : goal.invariant-loop-line
invariant-loop-line l = list_any (tells (line_words l.asked)) l.lines ≡ list_any (tells (line_words l.asked)) l.fn.lines

abbrev pub decreases-loop-line : goal.decreases-loop-line
decreases-loop-line l = length l.lines
