use Rattle.std.proofs.Common.{◌≡◌, ◌^◌, ◌-◌, take, min, sum}
use Rattle.tcp_proxy.proofs.table_end.count_calls.Given as goal

abbrev pub invariant-loop-count : goal.invariant-loop-count
invariant-loop-count l = l.calls ≡ min (sum (take l.count-index l.counts)) (2 ^ 64 - 1)
