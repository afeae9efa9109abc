use Rattle.std.proofs.Common.{◌≡◌, ◌++◌, drop}
use Rattle.stored_data.specs.Fields.{fields_of}
use Rattle.stored_data.proofs.stored_set.spread.Given as goal

-- The fields so far, and those of the columns left, are all.
abbrev pub invariant-loop-column : goal.invariant-loop-column
invariant-loop-column l = l.fields.items ++ fields_of (drop l.column-index l.columns) ≡ fields_of l.columns
