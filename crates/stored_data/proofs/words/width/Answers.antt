use Rattle.std.proofs.Common.{arith}
use Rattle.stored_data.proofs.WordColumns.{narrow, width-at}
use Rattle.stored_data.proofs.Elements.{no_column}
use Rattle.stored_data.proofs.words.width.Goals as goal

pub overflow_add-width : goal.overflow_add-width
overflow_add-width c =
    let more = width-at c.args.columns.now c.loop-column.column-index no_column (omega arith) in
    omega (arith, c.loop-column.invariant, c.words_of-width.ensures, more, narrow c.args.columns.now c.requires)

pub loop-column-preserved : goal.loop-column-preserved
loop-column-preserved c =
    let more = width-at c.args.columns.now c.loop-column.column-index no_column (omega arith) in
    omega (arith, c.loop-column.invariant, c.words_of-width.ensures, more)
