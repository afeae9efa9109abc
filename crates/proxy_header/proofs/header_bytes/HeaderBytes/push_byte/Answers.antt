use Rattle.std.proofs.Common.{arith, ap, decimal, length, length-append}
use Rattle.std.proofs.lemmas.Fmt.{length-decimal-le}
use Rattle.proxy_header.proofs.header_bytes.HeaderBytes.push_byte.Goals as goal

pub push_decimal-requires : goal.push_decimal-requires
push_decimal-requires c = omega (arith, length-decimal-le 3 c.from.result (omega arith) (omega arith) (omega arith))

pub returns-clause-room : goal.returns-clause-room
returns-clause-room c =
    omega (arith, length-decimal-le 3 c.from.result (omega arith) (omega arith) (omega arith), ap length c.push_decimal.ensures, length-append c.args.self.now (decimal c.from.result))
