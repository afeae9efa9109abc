use Rattle.std.proofs.Common.{length, suc}
use Rattle.test_calls.proofs.crowds.+admit_all+fn-admit_all-join+arg3.Given as goal

abbrev pub decreases-admit_all : goal.decreases-admit_all
decreases-admit_all g l = length l.others.items

abbrev pub decreases-join+arg3 : goal.decreases-join+arg3
decreases-join+arg3 g l = length l.others.items
