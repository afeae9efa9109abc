use Rattle.std.proofs.Common.{◌≡◌, ◌+◌, ◌++◌, ◌-◌, ◌≤◌}
use Rattle.stored_data.specs.Fields.{elements_from, elements_of, size}
use Rattle.stored_data.specs.Places.{placed_from}
use Rattle.stored_data.specs.Words.{words_in}
use Rattle.stored_data.proofs.stored_set.push_places.Given as goal

-- The places so far, and those of the elements left, are all.
abbrev pub invariant-loop-index : goal.invariant-loop-index
invariant-loop-index l = record {
  places : l.places.items ++ placed_from (elements_from l.column l._index (size l.column - l._index)) l.next ≡ l.fn.places.items ++ placed_from (elements_of l.column) l.at;
  words : l.next + words_in (elements_from l.column l._index (size l.column - l._index)) ≡ l.at + words_in (elements_of l.column);
  end : l._index-end ≡ size l.column;
  within : l._index ≤ size l.column;
}
