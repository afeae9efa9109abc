use Rattle.std.proofs.Common.{◌+◌, ◌∙◌, ◌++◌, ap, arith, drop}
use Rattle.stored_data.specs.Fields.{fields_of}
use Rattle.stored_data.proofs.Elements.{fields_of-joined, no_column}
use Rattle.stored_data.proofs.stored_set.spread.Goals as goal

pub loop-column-preserved : goal.loop-column-preserved
loop-column-preserved c =
    ap (λ items. items ++ fields_of (drop (c.loop-column.column-index + 1) c.args.columns.now)) c.in_ok-push_elements.ensures
    ∙ fields_of-joined c.args.columns.now c.loop-column.column-index no_column c.loop-column.fields.items (omega arith) ∙ c.loop-column.invariant
