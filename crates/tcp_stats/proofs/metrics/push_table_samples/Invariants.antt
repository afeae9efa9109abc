use Rattle.std.proofs.Common.{◌≡◌, ◌++◌, take}
use Rattle.std.specs.List.{flat_map}
use Rattle.tcp_stats.specs.Metrics.{table_sample}
use Rattle.tcp_stats.proofs.metrics.push_table_samples.Given as goal

abbrev pub invariant-loop-table : goal.invariant-loop-table
invariant-loop-table l = l.text.items ≡ l.fn.text.items ++ flat_map (table_sample l.reading l.name) (take l.table-index l.tables)
