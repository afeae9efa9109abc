use Rattle.std.proofs.Common.{◌≡◌, length}
use Rattle.base_lines.specs.Words.{words_left}
use Rattle.rule_words.specs.Sentences.{braced}
use Rattle.rule_words.proofs.BraceLemmas.{drafted}
use Rattle.rule_words.proofs.conditions.read_braced.Given as goal

-- the draft and the words that are left give what all words give
abbrev pub invariant-loop-draft : goal.invariant-loop-draft
invariant-loop-draft l = drafted l.draft (words_left l.words) ≡ braced l.section (words_left l.fn.words)

abbrev pub decreases-loop-draft : goal.decreases-loop-draft
decreases-loop-draft l = length (words_left l.words)
