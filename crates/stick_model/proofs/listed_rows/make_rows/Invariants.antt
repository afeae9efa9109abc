use Rattle.std.proofs.Common.{◌≡◌, ◌++◌}
use Rattle.stick_model.proofs.listed_rows.make_rows.Given as goal

abbrev pub invariant-loop-row : goal.invariant-loop-row
invariant-loop-row l = l.rows.items ++ l.row-iterator.rest.items ≡ l.fn.packed.items
