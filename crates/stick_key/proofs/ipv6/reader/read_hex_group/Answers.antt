use Rattle.std.proofs.Common.{arith, ◌<◌}
use Rattle.std.specs.Str.Parse.{digits_value}
use Rattle.stick_key.proofs.Numerals.{four_hex_digits, short_hex_is_read}
use Rattle.stick_key.proofs.ipv6.reader.read_hex_group.Goals as goal

pub overflow_cast-result : goal.overflow_cast-result
overflow_cast-result c =
    let small : digits_value 16 c.args.part.now < 65536 = four_hex_digits c.args.part.now c.in-Ok.ensures.0.1 c.if-part-gt4.false in
    omega (arith, small, c.in-Ok.ensures.1)

pub returns-in-Err : goal.returns-in-Err
returns-in-Err c = λ group. short_hex_is_read _ _ c.in-Err.ensures c.if-part-gt4.false group.0
