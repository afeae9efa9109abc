use Rattle.std.proofs.Common.{◌≡◌, take}
use Rattle.stick_model.specs.Listed.{each_in_order}
use Rattle.stick_model.proofs.listed_rows.sort_each.Given as goal

abbrev pub invariant-loop-part : goal.invariant-loop-part
invariant-loop-part l = l.rows.items ≡ each_in_order (take l.part-index l.parts)
