use Rattle.std.proofs.Common.{◌≡◌, ◌≤◌, length}
use Rattle.base_lines.specs.Words.{words_left}
use Rattle.rule_words.specs.Conditions.{condition_of}
use Rattle.rule_words.proofs.ConditionLemmas.{conjoined}
use Rattle.rule_words.proofs.conditions.read_conjunction.Given as goal

-- the terms so far and the words that are left give the whole condition
abbrev pub invariant-loop-word : goal.invariant-loop-word
invariant-loop-word l = record {
  gives : conjoined l.section l.acls l.terms (words_left l.words) ≡ condition_of l.section l.acls (words_left l.fn.words);
  shorter : length (words_left l.words) ≤ length (words_left l.fn.words);
}

abbrev pub decreases-loop-word : goal.decreases-loop-word
decreases-loop-word l = length (words_left l.words)
