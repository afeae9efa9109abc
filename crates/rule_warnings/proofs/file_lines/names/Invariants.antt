use Rattle.std.proofs.Common.{◌≡◌, false, length}
use Rattle.base_lines.specs.Words.{words_left}
use Rattle.rule_warnings.specs.FileLines.{names}
use Rattle.rule_warnings.proofs.file_lines.names.Given as goal

-- whether the words that are left name it, all of them do
abbrev pub invariant-loop-word : goal.invariant-loop-word
invariant-loop-word l = names l.name l.braced (words_left l.words) ≡ names l.name false (words_left l.fn.words)

abbrev pub decreases-loop-word : goal.decreases-loop-word
decreases-loop-word l = length (words_left l.words)
