use Rattle.std.proofs.Common.{◌≡◌, take}
use Rattle.stick_model.specs.Listed.{of_all}
use Rattle.stick_model.proofs.listed_rows.sort_all.Given as goal

abbrev pub invariant-loop-part : goal.invariant-loop-part
invariant-loop-part l = l.rows.items ≡ of_all (take l.part-index l.parts)
