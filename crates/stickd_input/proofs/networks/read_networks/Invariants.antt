use Rattle.std.proofs.Common.{◌≡◌, ◌≤◌, ◌+◌, ◌++◌, Some, length, map}
use Rattle.rule_addresses.specs.Addresses.{network_of}
use Rattle.stickd_input.specs.Networks.{listed}
use Rattle.stickd_input.proofs.networks.read_networks.Given as goal

-- those so far, and what is left, are what the whole list names
abbrev pub invariant-loop-part : goal.invariant-loop-part
invariant-loop-part l =
    (map (λ network. Some network) l.networks.items ++ map network_of l.parts ≡ map network_of (listed l.list))
    × (length l.networks.items + length l.parts ≡ length (listed l.list))
    × (length l.networks.items ≤ 64)

abbrev pub decreases-loop-part : goal.decreases-loop-part
decreases-loop-part l = length l.parts
