use Rattle.std.proofs.Common.{◌≡◌, ◌++◌, take}
use Rattle.adopt.specs.Written.{added_lines}
use Rattle.adopt.proofs.written.push_lines.Given as goal

abbrev pub invariant-loop-line : goal.invariant-loop-line
invariant-loop-line l = l.text.items ≡ l.fn.text.items ++ added_lines (take l.line-index l.lines)
