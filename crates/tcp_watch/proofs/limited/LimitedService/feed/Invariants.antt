use Rattle.std.proofs.Common.{length}
use Rattle.tcp_watch.proofs.limited.LimitedService.feed.Given as goal

abbrev pub decreases-loop-part : goal.decreases-loop-part
decreases-loop-part g l = length l.parts
