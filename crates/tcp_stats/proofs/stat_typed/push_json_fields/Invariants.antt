use Rattle.std.proofs.Common.{◌≡◌, ◌++◌, take}
use Rattle.std.specs.List.{flat_map}
use Rattle.tcp_stats.specs.StatFields.{json_field}
use Rattle.tcp_stats.proofs.stat_typed.push_json_fields.Given as goal

-- the columns so far
abbrev pub invariant-loop-column : goal.invariant-loop-column
invariant-loop-column l = l.text.items ≡ l.fn.text.items ++ flat_map (json_field l.now l.row) (take l.column-index l.columns)
