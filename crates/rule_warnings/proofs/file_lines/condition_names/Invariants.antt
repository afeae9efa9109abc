use Rattle.std.proofs.Common.{◌≡◌, length}
use Rattle.base_lines.specs.Words.{words_left}
use Rattle.rule_warnings.specs.FileLines.{condition_in}
use Rattle.rule_warnings.proofs.file_lines.condition_names.Given as goal

-- the condition in the words that are left is that in all
abbrev pub invariant-loop-word : goal.invariant-loop-word
invariant-loop-word l = condition_in (words_left l.words) ≡ condition_in (words_left l.fn.words)

abbrev pub decreases-loop-word : goal.decreases-loop-word
decreases-loop-word l = length (words_left l.words)
