use Rattle.std.proofs.Common.{◌++◌, ◌∷◌, [], decimal, arith, ap, sym, ◌∙◌, append_assoc, length-append, ◌%◌, ◌+◌, ◌/◌, length}
use Rattle.std.proofs.lemmas.Fmt.{decimal_digit, decimal_step}
use Rattle.base_lines.proofs.NumberLemmas.{tenth_shorter}
use Rattle.proxy_header.proofs.header_bytes.HeaderBytes.+push_decimal.Goals as goal

pub push-requires : goal.push-requires
push-requires t c = omega (arith, ap length (decimal_digit c.args.number (omega arith)))

pub returns-then-number-lt10 : goal.returns-then-number-lt10
returns-then-number-lt10 t c = c.push.ensures ∙ ap (λ l. c.args.self.now ++ l) (sym (decimal_digit c.args.number (omega arith)))

pub push_decimal-requires : goal.push_decimal-requires
push_decimal-requires t c = (omega arith, omega (arith, tenth_shorter c.args.number c.if-number-lt10.false (omega arith)))

pub push-requires-2 : goal.push-requires-2
push-requires-2 t c =
    omega (arith, tenth_shorter c.args.number c.if-number-lt10.false (omega arith), ap length c.push_decimal.ensures, length-append c.args.self.now (decimal (c.args.number / 10)))

pub returns : goal.returns
returns t c =
    c.push-2.ensures ∙ ap (λ l. l ++ (48 + c.args.number % 10) ∷ []) c.push_decimal.ensures
    ∙ append_assoc c.args.self.now (decimal (c.args.number / 10)) ((48 + c.args.number % 10) ∷ [])
    ∙ ap (λ l. c.args.self.now ++ l) (sym (decimal_step c.args.number c.if-number-lt10.false (omega arith)))
