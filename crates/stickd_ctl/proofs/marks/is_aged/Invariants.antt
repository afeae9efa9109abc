use Rattle.std.proofs.Common.{◌≡◌, length}
use Rattle.stickd_ctl.specs.Marks.{are_aged, is_aged}
use Rattle.stickd_ctl.proofs.marks.is_aged.Given as goal

-- the words so far say the same
abbrev pub invariant-loop-word : goal.invariant-loop-word
invariant-loop-word l = are_aged l.others l.words ≡ is_aged l.before l.line

abbrev pub decreases-loop-word : goal.decreases-loop-word
decreases-loop-word l = length l.words
