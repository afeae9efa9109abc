use Rattle.std.proofs.Common.{◌≡◌, length}
use Rattle.base_lines.specs.Words.{words_left}
use Rattle.table_texts.specs.Filters.{are_filters}
use Rattle.table_texts.specs.Seen.{words_of}
use Rattle.table_texts.proofs.filters.are_filters.Given as goal

-- what is left are filters, of so many at most, where the whole is
abbrev pub invariant-loop-word : goal.invariant-loop-word
invariant-loop-word l = are_filters l.left (words_left l.words) ≡ are_filters l.most (words_of l.text)

abbrev pub decreases-loop-word : goal.decreases-loop-word
decreases-loop-word l = length (words_left l.words)
