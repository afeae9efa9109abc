use Rattle.std.proofs.Common.{◌∙◌, ap, unwrap_or}
use Rattle.stored_data.specs.Words.{fields_in}
use Rattle.stick_model.proofs.CellLemmas.{cells-more}
use Rattle.stick_model.proofs.packed_row.push_cells.Goals as goal

pub loop-place-preserved : goal.loop-place-preserved
loop-place-preserved c =
    cells-more c.args.columns.now c.args.clock c.args.refs (fields_in c.args.columns.now c.args.words.now) c.fields-fields.result.now c.loop-place.place _ c.shown-shown.result
    c.unwrap_or.result c.args.cells.now.items c.loop-place.cells.items c.push.new.self.items c.fields-fields.ensures c.loop-place-test.true c.shown-shown.ensures
    (c.unwrap_or.ensures ∙ ap (λ refs. unwrap_or c.shown-shown.result refs) c.from.ensures)
    c.loop-place.invariant c.in_ok-push.ensures.items
