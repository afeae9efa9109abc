use Rattle.std.proofs.Common.{sym, ◌∙◌, arith}
use Rattle.stick_model.specs.Key.{key_cmp}
use Rattle.stick_table.proofs.EntryLemmas.{insert-here}
use Rattle.stick_table.proofs.contents.records.put_record.Goals as goal

pub returns-then-is_same : goal.returns-then-is_same
returns-then-is_same c =
    insert-here key_cmp c.args.records.now.items c.place_of-place.result c.args.key c.args.found c.index.result.now c.index_mut-entry.result.now
    (omega arith) c.index.ensures c.index_mut-entry.ensures.value (sym c.is_same.ensures ∙ c.if-is_same.true) (rw c.deref.ensures.value at (c.place_of-place.ensures.goes_behind c.args.found))
