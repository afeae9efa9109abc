use Rattle.std.proofs.Common.{arith}
use Rattle.stick_key.proofs.Ipv6Sides.{sides_too_many}
use Rattle.stick_key.proofs.ipv6.reader.read_shortened.Goals as goal

pub returns-then-len-gt-MOST_BESIDE_GAP-clause-none : goal.returns-then-len-gt-MOST_BESIDE_GAP-clause-none
returns-then-len-gt-MOST_BESIDE_GAP-clause-none c = λ all sides eight.
    sides_too_many c.args.before.now c.args.after.now c.in_ok-high.high c.in_ok-low.low all c.in_ok-high.ensures.found c.in_ok-low.ensures.found (omega arith) sides eight
