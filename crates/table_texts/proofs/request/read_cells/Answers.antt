use Rattle.std.proofs.Common.{◌∙◌, ◌≤◌}
use Rattle.stored_data.specs.Data.{greatest}
use Rattle.stick_model.specs.declared.rows.Cell.{Cell}
use Rattle.std.proofs.lemmas.List.Elements.{All-push}
use Rattle.table_texts.proofs.RequestLemmas.{one_more}
use Rattle.table_texts.proofs.request.read_cells.Goals as goal

pub loop-word-preserved : goal.loop-word-preserved
loop-word-preserved c = record {
  cells = one_more c.loop-word.cells c.push.new.self c.in_ok-cell.cell _ _ _ _ _ c.in-Some.ensures.word c.in-Some-next.ensures.word c.in_ok-cell.ensures.cell c.in-Ok.ensures.ok ∙ c.loop-word.invariant.cells;
  in_range = rw c.in-Ok.ensures.ok (All-push (λ (cell : Cell). cell.value ≤ greatest cell.field.datum) c.loop-word.cells c.in_ok-cell.cell c.loop-word.invariant.in_range c.in_ok-cell.ensures.in_range);
}
