use Rattle.std.proofs.Common.{◌≡◌, ◌++◌, take}
use Rattle.std.specs.List.{flat_map}
use Rattle.tcp_stats.specs.Process.{process_reading_text}
use Rattle.tcp_stats.proofs.process.push_each.Given as goal

abbrev pub invariant-loop-reading : goal.invariant-loop-reading
invariant-loop-reading l = l.text.items ≡ l.fn.text.items ++ flat_map (process_reading_text l.facts) (take l.reading-index l.readings)
