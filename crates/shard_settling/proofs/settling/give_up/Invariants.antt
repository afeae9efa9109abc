use Rattle.std.proofs.Common.{vec_len}
use Rattle.shard_settling.proofs.settling.give_up.Given as goal

abbrev pub decreases-loop-reference : goal.decreases-loop-reference
decreases-loop-reference g l = vec_len l.refs
