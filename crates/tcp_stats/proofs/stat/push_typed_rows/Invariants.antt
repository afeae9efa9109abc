use Rattle.std.proofs.Common.{◌≡◌, ◌++◌, take}
use Rattle.std.specs.List.{flat_map}
use Rattle.tcp_stats.specs.StatQueries.{seen_query}
use Rattle.tcp_stats.specs.StatTexts.{typed_if}
use Rattle.tcp_stats.proofs.stat.push_typed_rows.Given as goal

-- the rows so far
abbrev pub invariant-loop-row : goal.invariant-loop-row
invariant-loop-row l = l.text.items ≡ l.fn.text.items ++ flat_map (typed_if l.now (seen_query l.query)) (take l.row-index l.rows)
