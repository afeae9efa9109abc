use Rattle.std.proofs.Common.{◌≡◌, ◌++◌, take}
use Rattle.std.specs.List.{flat_map}
use Rattle.tcp_stats.specs.Metrics.{counter_text}
use Rattle.tcp_stats.proofs.metrics.push_counters.Given as goal

abbrev pub invariant-loop-count : goal.invariant-loop-count
invariant-loop-count l = l.text.items ≡ l.fn.text.items ++ flat_map (counter_text l.now) (take l.count-index l.counts)
