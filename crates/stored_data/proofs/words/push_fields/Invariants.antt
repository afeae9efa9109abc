use Rattle.std.proofs.Common.{◌≡◌, ◌++◌, ◌+◌, ◌-◌, ◌≤◌}
use Rattle.stored_data.specs.Fields.{elements_from, elements_of, size}
use Rattle.stored_data.specs.Words.{fields_from}
use Rattle.stored_data.proofs.words.push_fields.Given as goal

-- The fields so far, and those of the elements left, are all.
abbrev pub invariant-loop-index : goal.invariant-loop-index
invariant-loop-index l = record {
  fields : l.fields.items ++ fields_from (elements_from l.column l.index (size l.column - l.index)) l.words (l.at + l.index) ≡ l.fn.fields.items ++ fields_from (elements_of l.column) l.words l.at;
  end : l.index-end ≡ size l.column;
  within : l.index ≤ size l.column;
}
