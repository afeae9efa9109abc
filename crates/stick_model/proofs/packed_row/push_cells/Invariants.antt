use Rattle.std.proofs.Common.{◌≡◌, ◌++◌, take, map}
use Rattle.stored_data.specs.Words.{fields_in}
use Rattle.stick_model.specs.Gathered.{cell_of}
use Rattle.stick_model.proofs.packed_row.push_cells.Given as goal

abbrev pub invariant-loop-place : goal.invariant-loop-place
invariant-loop-place l = l.cells.items ≡ l.fn.cells.items ++ map (cell_of l.clock l.refs (fields_in l.columns l.words)) (take l.place l.fields)
