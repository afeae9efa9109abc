use Rattle.std.proofs.Common.{length}
use Rattle.rule_words.specs.Lines.{lines_of}
use Rattle.rule_config.proofs.ReadLemmas.{Reads}
use Rattle.rule_config.proofs.config.read_lines.Given as goal

-- the lines so far are read
abbrev pub invariant-loop-line : goal.invariant-loop-line
invariant-loop-line l = Reads (lines_of l.text) l.lines l.number l.read

abbrev pub decreases-loop-line : goal.decreases-loop-line
decreases-loop-line l = length l.lines
