use Rattle.std.proofs.Common.{◌∙◌}
use Rattle.stick_key.proofs.Ipv6Sides.{ipv6_unique}
use Rattle.stick_key.proofs.text.read_key.Goals as goal

pub returns-in_ok-from_bytes-in-Ipv6-clause-only : goal.returns-in_ok-from_bytes-in-Ipv6-clause-only
returns-in_ok-from_bytes-in-Ipv6-clause-only c = λ key reads.
    c.in_ok-from_bytes-in-Ipv6.ensures.key
    ∙ ipv6_unique c.args.text.now c.in_ok-address-in-Ipv6.address key (rw c.in_ok-address-in-Ipv6.ensures.ok_part at c.read_ipv6.ensures.found) (rw c.in-Ipv6.is at reads)
