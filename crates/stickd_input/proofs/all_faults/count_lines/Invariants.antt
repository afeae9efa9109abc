use Rattle.std.proofs.Common.{◌≡◌, ◌+◌, length}
use Rattle.rule_words.specs.Lines.{lines_of}
use Rattle.stickd_input.proofs.all_faults.count_lines.Given as goal

-- the lines that are taken, and those that are left
abbrev pub invariant-loop-lines : goal.invariant-loop-lines
invariant-loop-lines l = l.count + length l.lines ≡ length (lines_of l.text)

abbrev pub decreases-loop-lines : goal.decreases-loop-lines
decreases-loop-lines l = length l.lines
