use Rattle.base_lines.proofs.NumberLemmas.{number_of-numeral}
use Rattle.base_lines.proofs.laws.numbers_are_numerals.Goals as goal

pub returns : goal.returns
returns c = number_of-numeral
