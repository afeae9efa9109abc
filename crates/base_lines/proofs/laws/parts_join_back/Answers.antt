use Rattle.base_lines.proofs.PartLemmas.{join_with_byte-parts}
use Rattle.base_lines.proofs.laws.parts_join_back.Goals as goal

pub returns : goal.returns
returns c = join_with_byte-parts
