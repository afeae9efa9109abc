use Rattle.std.proofs.Common.{◌≡◌, ◌+◌, drop}
use Rattle.stored_data.specs.Words.{width}
use Rattle.stored_data.proofs.words.width.Given as goal

-- The words so far, and those of the columns left, are all.
abbrev pub invariant-loop-column : goal.invariant-loop-column
invariant-loop-column l = l.width + width (drop l.column-index l.columns) ≡ width l.columns
