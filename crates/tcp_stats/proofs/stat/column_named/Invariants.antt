use Rattle.std.proofs.Common.{◌≡◌, drop}
use Rattle.std.specs.List.{find}
use Rattle.tcp_stats.specs.Stat.{is_called}
use Rattle.tcp_stats.proofs.stat.column_named.Given as goal

-- no column so far has the name
abbrev pub invariant-loop-column : goal.invariant-loop-column
invariant-loop-column l = find (is_called l.name) (drop l.column-index l.columns) ≡ find (is_called l.name) l.columns
