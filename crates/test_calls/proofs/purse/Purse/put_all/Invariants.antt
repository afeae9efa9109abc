use Rattle.std.proofs.Common.{vec_len}
use Rattle.test_calls.proofs.purse.Purse.put_all.Given as goal

abbrev pub decreases-loop-reference : goal.decreases-loop-reference
decreases-loop-reference g l = vec_len l.references
