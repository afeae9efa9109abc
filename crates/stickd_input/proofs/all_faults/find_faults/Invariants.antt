use Rattle.std.proofs.Common.{◌≡◌, ◌++◌}
use Rattle.stickd_input.specs.Faults.{faults_of, first_faults}
use Rattle.stickd_input.proofs.all_faults.find_faults.Given as goal

-- the faults so far, and those of what is left, are those of the whole
abbrev pub invariant-loop-left : goal.invariant-loop-left
invariant-loop-left l = faults_of l.fn.text.items ≡ l.faults ++ first_faults l.left l.text.items

abbrev pub decreases-loop-left : goal.decreases-loop-left
decreases-loop-left l = l.left
