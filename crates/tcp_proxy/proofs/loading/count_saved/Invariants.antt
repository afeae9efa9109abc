use Rattle.std.proofs.Common.{length}
use Rattle.tcp_proxy.proofs.loading.count_saved.Given as goal

abbrev pub decreases-loop-line : goal.decreases-loop-line
decreases-loop-line l = length l.lines
