use Rattle.std.proofs.Common.{◌≡◌, drop}
use Rattle.rule_words.specs.Lines.{lines_of}
use Rattle.rule_difference.proofs.difference.line_at.Given as goal

-- the lines that are left stand after those that were taken
abbrev pub invariant-loop-taken : goal.invariant-loop-taken
invariant-loop-taken l = l.lines ≡ drop l.taken (lines_of l.text)
