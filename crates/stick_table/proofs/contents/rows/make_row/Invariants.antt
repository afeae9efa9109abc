use Rattle.std.proofs.Common.{◌≡◌, take, map}
use Rattle.stick_model.specs.State.{shown}
use Rattle.stick_table.proofs.contents.rows.make_row.Given as goal

abbrev pub invariant-loop-field : goal.invariant-loop-field
invariant-loop-field l = l.cells.items ≡ map (shown l.clock l.refs l.found) (take l.field-index l.field-items)
