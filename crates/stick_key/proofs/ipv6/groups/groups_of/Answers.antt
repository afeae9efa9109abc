use Rattle.std.proofs.Common.{arith}
use Rattle.stick_key.proofs.Ipv6Bytes.{are_pairs}
use Rattle.stick_key.proofs.ipv6.groups.groups_of.Goals as goal

pub returns : goal.returns
returns c = are_pairs c.args.address _ (omega arith) (λ k inside. c.loop-place.invariant.each k (omega arith))
