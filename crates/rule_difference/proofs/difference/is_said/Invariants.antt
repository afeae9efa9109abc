use Rattle.std.proofs.Common.{◌≡◌, length}
use Rattle.std.specs.List.{list_any}
use Rattle.rule_difference.specs.Difference.{says_same}
use Rattle.rule_difference.proofs.difference.is_said.Given as goal

-- what the lines that are left tell, all of them do
abbrev pub invariant-loop-other : goal.invariant-loop-other
invariant-loop-other l = list_any (says_same l.line) l.others ≡ list_any (says_same l.line) l.fn.others

abbrev pub decreases-loop-other : goal.decreases-loop-other
decreases-loop-other l = length l.others
