use Rattle.std.proofs.Common.{◌≡◌, ◌++◌, take}
use Rattle.adopt.specs.Written.{composed}
use Rattle.adopt.proofs.written.push_pieces.Given as goal

abbrev pub invariant-loop-line : goal.invariant-loop-line
invariant-loop-line l = l.text.items ≡ l.fn.text.items ++ composed (take l.line-index l.lines)
