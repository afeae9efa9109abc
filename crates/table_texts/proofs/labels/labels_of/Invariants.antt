use Rattle.std.proofs.Common.{All}
use Rattle.table_texts.specs.Labels.{IsLabel}
use Rattle.table_texts.proofs.labels.labels_of.Given as goal

abbrev pub invariant-loop-field : goal.invariant-loop-field
invariant-loop-field l = All (IsLabel l.columns) l.labels.items
