use Rattle.std.proofs.Common.{◌≡◌, take}
use Rattle.adopt.specs.Lines.{own_raws}
use Rattle.adopt.specs.Written.{raws_of}
use Rattle.adopt.proofs.adoption.adopted_lines.Given as goal

abbrev pub invariant-loop-place : goal.invariant-loop-place
invariant-loop-place l = raws_of l.adopted.items ≡ own_raws (take l.place l.lines)
