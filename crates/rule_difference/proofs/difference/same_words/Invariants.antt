use Rattle.std.proofs.Common.{◌≡◌, length}
use Rattle.base_lines.specs.Words.{words_left}
use Rattle.rule_difference.specs.Difference.{same_words}
use Rattle.rule_difference.proofs.difference.same_words.Given as goal

-- what the words that are left tell, all of them do
abbrev pub invariant-loop-word : goal.invariant-loop-word
invariant-loop-word l = same_words (words_left l.words) (words_left l.others) ≡ same_words (words_left l.fn.words) (words_left l.fn.others)

abbrev pub decreases-loop-word : goal.decreases-loop-word
decreases-loop-word l = length (words_left l.words)
