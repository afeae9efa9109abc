use Rattle.std.proofs.Common.{◌≡◌, [], length}
use Rattle.base_lines.specs.Parts.{parts, is_byte}
use Rattle.tcp_watch.specs.ProcessStats.{last_or}
use Rattle.tcp_watch.proofs.process_stat.behind_name.Given as goal

-- the last of those that are left is the last of all
abbrev pub invariant-loop-part : goal.invariant-loop-part
invariant-loop-part l = last_or l.last l.parts ≡ last_or [] (parts (is_byte 41) l.line)

abbrev pub decreases-loop-part : goal.decreases-loop-part
decreases-loop-part l = length l.parts
