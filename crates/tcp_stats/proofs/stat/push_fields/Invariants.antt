use Rattle.std.proofs.Common.{◌≡◌, ◌++◌, length}
use Rattle.std.specs.List.{flat_map}
use Rattle.tcp_stats.specs.Stat.{field_text}
use Rattle.tcp_stats.proofs.stat.push_fields.Given as goal

-- the fields so far, and those that are left
abbrev pub invariant-loop-name : goal.invariant-loop-name
invariant-loop-name l = l.text.items ++ flat_map (field_text l.now l.row) l.names ≡ l.fn.text.items ++ flat_map (field_text l.now l.row) l.fn.names

abbrev pub decreases-loop-name : goal.decreases-loop-name
decreases-loop-name l = length l.names
