use Rattle.std.proofs.Common.{◌≤◌, ◌+◌, ◌*◌, ◌^◌, ◌∙◌, ap, arith}
use Rattle.std.proofs.lemmas.Nat.{mul-le}
use Rattle.stored_data.specs.Words.{width}
use Rattle.stored_data.proofs.WordColumns.{narrow}
use Rattle.shard_housekeeping.proofs.lengths.greatest_length.Goals as goal

-- columns have few words
pub overflow_mul-words : goal.overflow_mul-words
overflow_mul-words c = omega (arith, c.width.ensures ∙ ap width c.columns.ensures.columns, narrow c.args.spec.now.columns c.columns.ensures.sound)

pub overflow_add-bytes : goal.overflow_add-bytes
overflow_add-bytes c = omega (arith, c.width.ensures ∙ ap width c.columns.ensures.columns, narrow c.args.spec.now.columns c.columns.ensures.sound)

pub overflow_mul-bytes : goal.overflow_mul-bytes
overflow_mul-bytes c =
    let entry : 110 + 8 * c.width.result ≤ 2 ^ 20 = omega (arith, c.width.ensures ∙ ap width c.columns.ensures.columns, narrow c.args.spec.now.columns c.columns.ensures.sound) in
    let size : c.from.result ≤ 2 ^ 30 = omega (arith, c.from.ensures, c.requires.size.1) in
    let bytes : c.from.result * (110 + 8 * c.width.result) ≤ 2 ^ 30 * 2 ^ 20 = mul-le c.from.result (110 + 8 * c.width.result) (2 ^ 30) (2 ^ 20) size entry in
    omega (arith, bytes)

pub overflow_add-fitting : goal.overflow_add-fitting
overflow_add-fitting c = omega (arith, c.width.ensures ∙ ap width c.columns.ensures.columns, narrow c.args.spec.now.columns c.columns.ensures.sound)
