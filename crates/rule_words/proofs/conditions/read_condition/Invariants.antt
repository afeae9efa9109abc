use Rattle.std.proofs.Common.{◌≡◌, length}
use Rattle.base_lines.specs.Words.{words_left}
use Rattle.rule_words.specs.Conditions.{condition_of}
use Rattle.rule_words.proofs.ConditionLemmas.{behind}
use Rattle.rule_words.proofs.conditions.read_condition.Given as goal

-- the conjunctions so far, and those that are left
abbrev pub invariant-loop-condition : goal.invariant-loop-condition
invariant-loop-condition l = behind l.condition (condition_of l.section l.acls (words_left l.words)) ≡ condition_of l.section l.acls (words_left l.fn.words)

abbrev pub decreases-loop-condition : goal.decreases-loop-condition
decreases-loop-condition l = length (words_left l.words)
