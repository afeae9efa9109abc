use Rattle.std.proofs.Common.{◌≡◌, length}
use Rattle.stickd_ctl.specs.Lines.{value_in}
use Rattle.stickd_ctl.proofs.lines.value_among.Given as goal

-- none so far has the name
abbrev pub invariant-loop-word : goal.invariant-loop-word
invariant-loop-word l = value_in l.name l.words ≡ value_in l.name l.fn.words

abbrev pub decreases-loop-word : goal.decreases-loop-word
decreases-loop-word l = length l.words
