use Rattle.std.proofs.Common.{◌≡◌, ◌+◌, drop}
use Rattle.std.specs.Prelude.{find}
use Rattle.stored_data.specs.Fields.{elements, same_field}
use Rattle.stored_data.specs.Stored.{HavePeriods}
use Rattle.stored_data.specs.Words.{width, fields_from, fields_in}
use Rattle.stored_data.proofs.words.get.Given as goal

-- None of the fields so far is the one that is looked for.
abbrev pub invariant-loop-column : goal.invariant-loop-column
invariant-loop-column l = record {
  found : find (λ stored. same_field stored.field l.field) (fields_from (elements (drop l.column-index l.columns)) l.words l.at) ≡ find (λ stored. same_field stored.field l.field) (fields_in l.columns l.words);
  within : l.at + width (drop l.column-index l.columns) ≡ width l.columns;
  periods : HavePeriods (drop l.column-index l.columns);
}
