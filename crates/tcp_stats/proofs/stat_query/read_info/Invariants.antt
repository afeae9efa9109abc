use Rattle.std.proofs.Common.{◌≡◌, length}
use Rattle.base_lines.specs.Words.{words_left}
use Rattle.tcp_stats.specs.StatQueries.{info_of, info_with}
use Rattle.tcp_stats.proofs.stat_query.read_info.Given as goal

abbrev pub invariant-loop-word : goal.invariant-loop-word
invariant-loop-word l = info_with l.format (words_left l.rest) ≡ info_of (words_left l.fn.rest)

abbrev pub decreases-loop-word : goal.decreases-loop-word
decreases-loop-word l = length (words_left l.rest)
