use Rattle.std.proofs.Common.{◌≡◌}
use Rattle.base_lines.specs.Words.{words_left}
use Rattle.tcp_watch.specs.ProcessStats.{behind}
use Rattle.tcp_watch.proofs.process_stat.number_behind.Given as goal

-- behind as many of those that are left stands what stands behind all
abbrev pub invariant-loop-left : goal.invariant-loop-left
invariant-loop-left l = behind l.left (words_left l.words) ≡ behind l.fn.count (words_left l.fn.words)

abbrev pub decreases-loop-left : goal.decreases-loop-left
decreases-loop-left l = l.left
