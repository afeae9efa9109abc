use Rattle.std.proofs.Common.{◌≡◌, drop}
use Rattle.tcp_relay.specs.Balance.{least_from, least_of}
use Rattle.tcp_relay.proofs.balance.least_of.Given as goal

-- the least so far and of those that are left is that of all
abbrev pub invariant-loop-worker : goal.invariant-loop-worker
invariant-loop-worker l = least_from l.least l.worker (drop l.worker l.words) ≡ least_of l.words
