use Rattle.std.proofs.Common.{◌≡◌, ◌+◌, ◌++◌, false, [], drop, length}
use Rattle.rule_words.specs.Lines.{lines_of}
use Rattle.rule_warnings.specs.FileLines.{line_warnings}
use Rattle.rule_warnings.proofs.file_lines.file_warnings.Given as goal

-- those of the lines so far, and those of the lines that are left, which stand behind so many
abbrev pub invariant-loop-line : goal.invariant-loop-line
invariant-loop-line l = record {
  all : l.all ++ line_warnings l.heading l.served l.others l.lines ≡ line_warnings [] false 0 (lines_of l.text);
  left : l.lines ≡ drop l.others (lines_of l.text);
  count : l.others + length l.lines ≡ length (lines_of l.text);
}

abbrev pub decreases-loop-line : goal.decreases-loop-line
decreases-loop-line l = length l.lines
