use Rattle.std.proofs.Common.{◌≡◌, ◌++◌, drop}
use Rattle.std.specs.List.{filter_map}
use Rattle.tcp_stats.specs.Trouble.{trouble_of}
use Rattle.tcp_stats.proofs.trouble.troubles_among.Given as goal

-- those so far, and those of the counts that are left
abbrev pub invariant-loop-count : goal.invariant-loop-count
invariant-loop-count l =
    l.list ++ filter_map (trouble_of l.before l.now l.tells_rejected) (drop l.count-index l.counts) ≡ filter_map (trouble_of l.before l.now l.tells_rejected) l.counts
