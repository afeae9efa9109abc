use Rattle.std.proofs.Common.{◌≡◌, ◌++◌, take}
use Rattle.std.specs.List.{flat_map}
use Rattle.tcp_stats.specs.Metrics.{reading_text}
use Rattle.tcp_stats.proofs.metrics.push_readings.Given as goal

abbrev pub invariant-loop-reading : goal.invariant-loop-reading
invariant-loop-reading l = l.text.items ≡ l.fn.text.items ++ flat_map (reading_text l.now) (take l.reading-index l.readings)
