use Rattle.base_lines.proofs.NumberLemmas.{number_of-decimal}
use Rattle.base_lines.proofs.laws.numbers_read_back.Goals as goal

pub returns : goal.returns
returns c = number_of-decimal
