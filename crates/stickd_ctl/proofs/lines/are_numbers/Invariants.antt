use Rattle.std.proofs.Common.{◌≡◌, length}
use Rattle.std.specs.List.{list_all}
use Rattle.stickd_ctl.specs.Lines.{is_number}
use Rattle.stickd_ctl.proofs.lines.are_numbers.Given as goal

-- those so far are numbers
abbrev pub invariant-loop-word : goal.invariant-loop-word
invariant-loop-word l = list_all is_number l.words ≡ list_all is_number l.fn.words

abbrev pub decreases-loop-word : goal.decreases-loop-word
decreases-loop-word l = length l.words
