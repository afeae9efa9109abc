use Rattle.std.proofs.Common.{vec_len}
use Rattle.tcp_proxy.proofs.ending.give_up.Given as goal

abbrev pub decreases-loop-reference : goal.decreases-loop-reference
decreases-loop-reference g l = vec_len l.refs
