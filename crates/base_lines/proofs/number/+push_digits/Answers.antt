use Rattle.std.proofs.Common.{◌++◌, ◌∷◌, [], decimal, arith, ap, sym, ◌∙◌, append_assoc, length-append, ◌%◌, ◌+◌, ◌/◌, length}
use Rattle.std.proofs.lemmas.Fmt.{decimal_digit, decimal_step}
use Rattle.base_lines.proofs.NumberLemmas.{tenth_shorter}
use Rattle.base_lines.proofs.number.+push_digits.Goals as goal

pub push_reserved-requires : goal.push_reserved-requires
push_reserved-requires t c = omega (arith, c.requires, ap length (decimal_digit c.args.number (omega arith)))

pub returns-then-number-lt10-clause-items : goal.returns-then-number-lt10-clause-items
returns-then-number-lt10-clause-items t c =
    c.push_reserved.ensures.items ∙ ap (λ l. c.args.text.now.items ++ l) (sym (decimal_digit c.args.number (omega arith)))

pub push_digits-requires : goal.push_digits-requires
push_digits-requires t c = (omega arith, omega (arith, c.requires, tenth_shorter c.args.number (omega arith) (omega arith)))

pub push_reserved-requires-2 : goal.push_reserved-requires-2
push_reserved-requires-2 t c =
    omega (arith, c.requires, tenth_shorter c.args.number (omega arith) (omega arith), ap length c.push_digits.ensures.items, length-append c.args.text.now.items (decimal (c.args.number / 10)), c.push_digits.ensures.room)

pub returns-clause-items : goal.returns-clause-items
returns-clause-items t c =
    c.push_reserved-2.ensures.items ∙ ap (λ l. l ++ (48 + c.args.number % 10) ∷ []) c.push_digits.ensures.items
    ∙ append_assoc c.args.text.now.items (decimal (c.args.number / 10)) ((48 + c.args.number % 10) ∷ [])
    ∙ ap (λ l. c.args.text.now.items ++ l) (sym (decimal_step c.args.number (omega arith) (omega arith)))
