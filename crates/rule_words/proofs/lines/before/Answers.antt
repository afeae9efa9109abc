use Rattle.std.proofs.Common.{◌≡◌, ◌≤◌, ℕ, List, length, ap, arith, rules}
use Rattle.base_lines.specs.Parts.{first_part, is_byte}
use Rattle.rule_words.proofs.LineLemmas.{first_part-le}
use Rattle.rule_words.proofs.lines.before.Goals as goal

within : (separator : ℕ) (text part : List ℕ) → part ≡ first_part (is_byte separator) text → length part ≤ length text
within separator text part e = omega (arith, ap length e, first_part-le (is_byte separator) text)

pub returns-in-Some-clause-within : goal.returns-in-Some-clause-within
returns-in-Some-clause-within c = within c.args.separator c.args.text.now c.in-Some.part.now (search rules)
