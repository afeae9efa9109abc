use Rattle.std.proofs.Common.{◌≡◌, ◌+◌, ◌++◌, drop}
use Rattle.stored_data.specs.Fields.{elements}
use Rattle.stored_data.specs.Places.{placed_from, places_of}
use Rattle.stored_data.specs.Words.{width}
use Rattle.stored_data.proofs.stored_set.place_all.Given as goal

-- The places so far, and those of the columns left, are all.
abbrev pub invariant-loop-column : goal.invariant-loop-column
invariant-loop-column l = record {
  places : l.places.items ++ placed_from (elements (drop l.column-index l.columns)) l.at ≡ places_of l.columns;
  words : l.at + width (drop l.column-index l.columns) ≡ width l.columns;
}
