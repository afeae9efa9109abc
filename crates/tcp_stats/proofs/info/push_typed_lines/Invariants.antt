use Rattle.std.proofs.Common.{◌≡◌, ◌++◌, take}
use Rattle.std.specs.List.{flat_map}
use Rattle.tcp_stats.specs.InfoFields.{typed_info}
use Rattle.tcp_stats.proofs.info.push_typed_lines.Given as goal

abbrev pub invariant-loop-line : goal.invariant-loop-line
invariant-loop-line l = l.text.items ≡ l.fn.text.items ++ flat_map (typed_info l.now) (take l.line-index l.lines)
