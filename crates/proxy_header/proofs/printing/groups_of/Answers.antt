use Rattle.std.proofs.Common.{arith}
use Rattle.proxy_header.proofs.GroupLemmas.{are_pairs}
use Rattle.proxy_header.proofs.printing.groups_of.Goals as goal

pub returns : goal.returns
returns c = are_pairs c.args.address _ (omega arith) (λ k inside. c.loop-place.invariant.each k (omega arith))
