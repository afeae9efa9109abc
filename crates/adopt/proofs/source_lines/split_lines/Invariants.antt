use Rattle.std.proofs.Common.{◌≡◌, ◌++◌, length}
use Rattle.adopt.specs.Lines.{bare_lines, own_lines, texts_of}
use Rattle.adopt.proofs.source_lines.split_lines.Given as goal

-- the lines so far, and those that are left
abbrev pub invariant-loop-part : goal.invariant-loop-part
invariant-loop-part l = texts_of l.lines.items ++ bare_lines l.parts ≡ own_lines l.text

abbrev pub decreases-loop-part : goal.decreases-loop-part
decreases-loop-part l = length l.parts
