use Rattle.std.proofs.Common.{◌≡◌, length}
use Rattle.base_lines.specs.Words.{words_left}
use Rattle.rule_words.specs.Table.{pairs_of, with_settings}
use Rattle.rule_words.proofs.table.Settings.set_all.Given as goal

-- the words that are left, after those so far, give what all words give
abbrev pub invariant-loop-keyword : goal.invariant-loop-keyword
invariant-loop-keyword l = with_settings l.self (pairs_of (words_left l.words)) ≡ with_settings l.fn.self (pairs_of (words_left l.fn.words))

abbrev pub decreases-loop-keyword : goal.decreases-loop-keyword
decreases-loop-keyword l = length (pairs_of (words_left l.words))
