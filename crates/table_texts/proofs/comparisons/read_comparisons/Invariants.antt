use Rattle.std.proofs.Common.{◌≡◌, length}
use Rattle.base_lines.specs.Words.{words_left}
use Rattle.table_texts.specs.Comparisons.{comparisons_of}
use Rattle.table_texts.specs.Seen.{words_of}
use Rattle.table_texts.proofs.ComparisonLemmas.{after}
use Rattle.table_texts.proofs.comparisons.read_comparisons.Given as goal

-- the filters so far, and those that are left
abbrev pub invariant-loop-word : goal.invariant-loop-word
invariant-loop-word l = after l.all (comparisons_of (words_left l.words)) ≡ comparisons_of (words_of l.text)

abbrev pub decreases-loop-word : goal.decreases-loop-word
decreases-loop-word l = length (words_left l.words)
