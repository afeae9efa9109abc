use Rattle.base_lines.proofs.PartLemmas.{parts-is_split}
use Rattle.base_lines.proofs.laws.parts_are_split.Goals as goal

pub returns : goal.returns
returns c = parts-is_split
