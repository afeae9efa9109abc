use Rattle.std.proofs.Common.{◌≡◌, length}
use Rattle.std.specs.Prelude.{fold}
use Rattle.stickd_ctl.specs.Progressing.{with_line, with_lines}
use Rattle.stickd_ctl.proofs.listed.Listed.note_lines.Given as goal

-- what the lines that are left add to those so far
abbrev pub invariant-loop-line : goal.invariant-loop-line
invariant-loop-line l = fold with_line l.self l.lines ≡ with_lines l.fn.self l.text

abbrev pub decreases-loop-line : goal.decreases-loop-line
decreases-loop-line l = length l.lines
