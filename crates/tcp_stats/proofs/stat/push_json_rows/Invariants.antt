use Rattle.std.proofs.Common.{◌≡◌, ◌++◌, [], drop}
use Rattle.tcp_stats.specs.StatQueries.{seen_query}
use Rattle.tcp_stats.specs.StatTexts.{json_rows}
use Rattle.tcp_stats.proofs.stat.push_json_rows.Given as goal

-- the rows so far, and those that are left
abbrev pub invariant-loop-row : goal.invariant-loop-row
invariant-loop-row l = l.text.items ++ json_rows l.now (seen_query l.query) l.mark (drop l.row-index l.rows) ≡ l.fn.text.items ++ json_rows l.now (seen_query l.query) [] l.rows
