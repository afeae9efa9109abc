use Rattle.std.proofs.Common.{length}
use Rattle.tcp_watch.proofs.limited.LimitedService.serve_commands.Given as goal

abbrev pub decreases-loop-command : goal.decreases-loop-command
decreases-loop-command g l = length l.commands
