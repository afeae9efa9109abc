use Rattle.std.proofs.Common.{◌≡◌, drop, map, max}
use Rattle.std.specs.List.{fold}
use Rattle.stick_key.specs.Ipv6Printed.{longest, places, zeros_from}
use Rattle.proxy_header.proofs.printing.longest.Given as goal

-- the longest so far, and those from here on
abbrev pub invariant-loop-start : goal.invariant-loop-start
invariant-loop-start l = fold max l.longest (map (zeros_from l.groups) (drop l.start places)) ≡ longest l.groups
