use Rattle.std.proofs.Common.{◌≡◌}
use Rattle.stick_key.specs.Ipv6Printed.{first_longest}
use Rattle.proxy_header.proofs.RunLemmas.{first_from}
use Rattle.proxy_header.proofs.printing.first_longest.Given as goal

-- none of the longest begins before this place
abbrev pub invariant-loop-start : goal.invariant-loop-start
invariant-loop-start l = first_from l.groups l.start ≡ first_longest l.groups
