use Rattle.std.proofs.Common.{◌≡◌, ℕ, ◌+◌, ◌<◌, ◌≤◌, List, drop, map, length, slice_index}
use Rattle.stored_data.specs.Fields.{elements}
use Rattle.stored_data.specs.Stored.{HavePeriods}
use Rattle.stored_data.specs.Words.{width, fields_from, fields_in, edited}
use Rattle.stored_data.proofs.words.edit_fields.Given as goal

-- Where the columns left become what they are to be, and the words so far stay, all do.
abbrev pub invariant-loop-column : goal.invariant-loop-column
invariant-loop-column l = record {
  whole : (words : List ℕ) → ((k : ℕ) → k < l.at → slice_index words k ≡ slice_index l.words k)
      → fields_from (elements (drop l.column-index l.columns)) words l.at ≡ map (edited l.edit) (fields_from (elements (drop l.column-index l.columns)) l.fn.words l.at)
      → fields_in l.columns words ≡ map (edited l.edit) (fields_in l.columns l.fn.words);
  left : (k : ℕ) → l.at ≤ k → slice_index l.words k ≡ slice_index l.fn.words k;
  sized : length l.words ≡ length l.fn.words;
  within : l.at + width (drop l.column-index l.columns) ≡ width l.columns;
  periods : HavePeriods (drop l.column-index l.columns);
}
