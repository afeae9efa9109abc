use Rattle.std.proofs.Common.{◌≡◌, ◌+◌, ◌++◌, length}
use Rattle.rule_words.specs.Lines.{lines_of}
use Rattle.rule_difference.specs.Difference.{numbers_beyond}
use Rattle.rule_difference.proofs.difference.lines_beyond.Given as goal

-- those of the lines so far, and those of the lines that are left
abbrev pub invariant-loop-line : goal.invariant-loop-line
invariant-loop-line l = record {
  all : l.numbers ++ numbers_beyond (lines_of l.other) (l.number + 1) l.lines ≡ numbers_beyond (lines_of l.other) 1 (lines_of l.text);
  count : l.number + length l.lines ≡ length (lines_of l.text);
}

abbrev pub decreases-loop-line : goal.decreases-loop-line
decreases-loop-line l = length l.lines
