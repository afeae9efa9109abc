use Rattle.stick_pooled.proofs.RowLemmas.{row-is}
use Rattle.stick_pooled.proofs.rows.fill_row.Goals as goal

pub returns : goal.returns
returns c held there =
    row-is c.args.spec.now.columns c.args.spec.now.expire c.args.clock c.args.slot c.args.store.now held c.entry-entry.result c.args.key c.left_at.result c.fill_cells-shown.result there c.entry-entry.ensures
    c.requires.own c.left_at.ensures (c.fill_cells-shown.ensures held there)
