use Rattle.std.proofs.Common.{◌≡◌, ◌+◌}
use Rattle.stick_key.specs.Ipv6Printed.{zeros_from}
use Rattle.proxy_header.proofs.printing.zeros_from.Given as goal

-- zeros so far, and those from here on
abbrev pub invariant-loop-place : goal.invariant-loop-place
invariant-loop-place l = record {
  zeros : zeros_from l.groups l.start ≡ l.zeros + zeros_from l.groups l.place;
  place : l.start + l.zeros ≡ l.place;
}
