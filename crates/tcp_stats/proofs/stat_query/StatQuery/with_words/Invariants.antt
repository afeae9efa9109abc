use Rattle.std.proofs.Common.{◌≡◌, length}
use Rattle.base_lines.specs.Words.{words_left}
use Rattle.tcp_stats.specs.StatQueries.{query_with, seen_query}
use Rattle.tcp_stats.proofs.stat_query.StatQuery.with_words.Given as goal

abbrev pub invariant-loop-word : goal.invariant-loop-word
invariant-loop-word l = query_with (seen_query l.query) (words_left l.rest) ≡ query_with (seen_query l.fn.self) (words_left l.fn.rest)

abbrev pub decreases-loop-word : goal.decreases-loop-word
decreases-loop-word l = length (words_left l.rest)
