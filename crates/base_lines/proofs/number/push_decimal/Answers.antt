use Rattle.std.proofs.Common.{arith}
use Rattle.base_lines.proofs.NumberLemmas.{twenty_digits}
use Rattle.base_lines.proofs.number.push_decimal.Goals as goal

pub push_digits-requires : goal.push_digits-requires
push_digits-requires c = omega (arith, twenty_digits c.args.number (omega arith), c.in_ok-reserve.ensures.ok, c.in_ok-reserve.ensures.len)
