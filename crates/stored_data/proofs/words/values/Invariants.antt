use Rattle.std.proofs.Common.{◌≡◌, ◌++◌, ◌+◌, drop}
use Rattle.stored_data.specs.Fields.{elements}
use Rattle.stored_data.specs.Stored.{HavePeriods}
use Rattle.stored_data.specs.Words.{width, fields_from, fields_in}
use Rattle.stored_data.proofs.words.values.Given as goal

-- The fields so far, and those of the columns left, are all.
abbrev pub invariant-loop-column : goal.invariant-loop-column
invariant-loop-column l = record {
  fields : l.fields.items ++ fields_from (elements (drop l.column-index l.columns)) l.words l.at ≡ fields_in l.columns l.words;
  within : l.at + width (drop l.column-index l.columns) ≡ width l.columns;
  periods : HavePeriods (drop l.column-index l.columns);
}
