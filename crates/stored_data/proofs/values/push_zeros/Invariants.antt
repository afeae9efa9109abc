use Rattle.std.proofs.Common.{◌≡◌, ◌++◌, ◌-◌, ◌≤◌, map}
use Rattle.std.specs.Prelude.{filter}
use Rattle.stored_data.specs.Acts.{is_kept, zero_field}
use Rattle.stored_data.specs.Fields.{elements_from, elements_of, size}
use Rattle.stored_data.proofs.values.push_zeros.Given as goal

-- The fields so far, and those of the elements left, are all.
abbrev pub invariant-loop-index : goal.invariant-loop-index
invariant-loop-index l = record {
  fields : l.fields.items ++ map zero_field (filter is_kept (elements_from l.column l.index (size l.column - l.index))) ≡ l.fn.fields.items ++ map zero_field (filter is_kept (elements_of l.column));
  end : l.index-end ≡ size l.column;
  within : l.index ≤ size l.column;
}
