use Rattle.std.proofs.Common.{◌≡◌, drop}
use Rattle.table_texts.specs.Text.{period_of}
use Rattle.table_texts.proofs.labels.period_of.Given as goal

abbrev pub invariant-loop-column : goal.invariant-loop-column
invariant-loop-column l = period_of (drop l.column-index l.columns) l.datum ≡ period_of l.columns l.datum
