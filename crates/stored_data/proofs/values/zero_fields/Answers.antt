use Rattle.std.proofs.Common.{◌+◌, ◌∙◌, ◌++◌, ap, arith, drop}
use Rattle.std.proofs.lemmas.Grind.{common_steps}
use Rattle.stored_data.specs.Acts.{zero_of}
use Rattle.stored_data.proofs.WordColumns.{zero_of-joined}
use Rattle.stored_data.proofs.Elements.{no_column}
use Rattle.stored_data.proofs.values.zero_fields.Goals as goal

pub loop-column-preserved : goal.loop-column-preserved
loop-column-preserved c = record {
  fields = ap (λ items. items ++ zero_of (drop (c.loop-column.column-index + 1) c.args.columns.now)) c.in_ok-push_zeros.ensures
      ∙ zero_of-joined c.args.columns.now c.loop-column.column-index no_column c.loop-column.fields.items (omega arith) ∙ c.loop-column.invariant.fields;
  periods = grind (arith, common_steps);
}
