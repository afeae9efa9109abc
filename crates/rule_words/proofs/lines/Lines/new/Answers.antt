use Rattle.std.proofs.Common.{◌≡◌, ◌≤◌, ◌+◌, ℕ, List, length, ap, arith}
use Rattle.base_lines.specs.Parts.{parts, is_line_end}
use Rattle.rule_words.specs.Lines.{without_crs}
use Rattle.rule_words.proofs.LineLemmas.{few_lines}
use Rattle.rule_words.proofs.lines.Lines.new.Goals as goal

few : (text : List ℕ) (made : List (List ℕ)) → made ≡ parts is_line_end text → length (without_crs made) ≤ length text + 1
few text made e = omega (arith, ap (λ l. length (without_crs l)) e, few_lines text)

pub returns-clause-few : goal.returns-clause-few
returns-clause-few c = few c.args.text.now c.new.result c.new.ensures.parts
