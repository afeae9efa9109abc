use Rattle.std.proofs.Common.{◌≡◌, ◌+◌, ◌*◌, ◌≤◌, ◌++◌, ◌∷◌, length, drop, flat_map, false}
use Rattle.std.specs.Fmt.{digits}
use Rattle.stick_key.specs.Ipv6Printed.{joined}
use Rattle.proxy_header.proofs.printing.push_groups.Given as goal

-- what is written, and the groups left, each after a colon, give the text
abbrev pub invariant-loop-group : goal.invariant-loop-group
invariant-loop-group l = record {
  text : l.text ++ flat_map (λ group. 58 ∷ digits 16 false group) (drop l.group-index l.rest) ≡ l.fn.text ++ joined l.groups;
  room : length l.text ≤ length l.fn.text + 4 + 5 * l.group-index;
}
