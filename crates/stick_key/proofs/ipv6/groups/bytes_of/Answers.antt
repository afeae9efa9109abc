use Rattle.std.proofs.Common.{arith}
use Rattle.stick_key.proofs.Ipv6Bytes.{are_bytes}
use Rattle.stick_key.proofs.ipv6.groups.bytes_of.Goals as goal

pub returns : goal.returns
returns c =
    are_bytes c.args.groups _ (omega arith)
    (λ k inside. c.loop-place.invariant.high k (omega arith)) (λ k inside. c.loop-place.invariant.low k (omega arith))
