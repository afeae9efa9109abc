use Rattle.std.proofs.Common.{◌≡◌, ◌++◌, ◌∷◌, drop, flat_map, false}
use Rattle.std.specs.Fmt.{digits}
use Rattle.stick_key.specs.Ipv6Printed.{joined}
use Rattle.stick_key.proofs.ipv6.printer.push_groups.Given as goal

-- What is written, and the groups left, each after a colon, give the text.
abbrev pub invariant-loop-group : goal.invariant-loop-group
invariant-loop-group l =
    l.text.items ++ flat_map (λ group. 58 ∷ digits 16 false group) (drop l.group-index l.rest) ≡ l.fn.text.items ++ joined l.groups
