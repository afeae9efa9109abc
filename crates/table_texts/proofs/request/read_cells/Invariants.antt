use Rattle.std.proofs.Common.{◌≡◌, ◌≤◌, All, length}
use Rattle.base_lines.specs.Words.{words_left}
use Rattle.stored_data.specs.Data.{greatest}
use Rattle.stick_model.specs.declared.rows.Cell.{Cell}
use Rattle.table_texts.specs.Request.{cells_of}
use Rattle.table_texts.specs.Seen.{words_of}
use Rattle.table_texts.proofs.RequestLemmas.{behind}
use Rattle.table_texts.proofs.request.read_cells.Given as goal

-- the pairs so far, and those that are left
abbrev pub invariant-loop-word : goal.invariant-loop-word
invariant-loop-word l = record {
  cells : behind l.cells (cells_of (words_left l.words)) ≡ cells_of (words_of l.text);
  in_range : All (λ (cell : Cell). cell.value ≤ greatest cell.field.datum) l.cells;
}

abbrev pub decreases-loop-word : goal.decreases-loop-word
decreases-loop-word l = length (words_left l.words)
