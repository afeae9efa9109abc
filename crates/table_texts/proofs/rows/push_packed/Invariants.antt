use Rattle.std.proofs.Common.{◌≡◌, ◌++◌, take}
use Rattle.std.specs.List.{flat_map}
use Rattle.table_texts.specs.Text.{row_text}
use Rattle.table_texts.proofs.rows.push_packed.Given as goal

abbrev pub invariant-loop-row : goal.invariant-loop-row
invariant-loop-row l = l.text.items ≡ l.fn.text.items ++ flat_map (row_text l.kind l.columns) (take l.row-index l.rows)
