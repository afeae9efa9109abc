use Rattle.std.proofs.Common.{◌<◌, ◌∙◌, ap, sym, arith}
use Rattle.std.specs.Prelude.{◌++◌, ◌-◌, ◌+◌}
use Rattle.stored_data.specs.Fields.{elements_from, size}
use Rattle.stored_data.specs.Words.{fields_from}
use Rattle.stored_data.proofs.WordColumns.{elements-joined, inside_column}
use Rattle.stored_data.proofs.words.push_fields.Goals as goal

pub push_field-requires-clause-within : goal.push_field-requires-clause-within
push_field-requires-clause-within c =
    let inside : c.loop-index.index < size c.args.column = omega (arith, c.loop-index.invariant.end, c.loop-index-test.true) in
    omega (arith, inside_column c.args.column c.loop-index.index (sym c.is_kept.ensures ∙ c.if-not-is_kept.false) inside, c.requires.within)

pub loop-index-preserved : goal.loop-index-preserved
loop-index-preserved c =
    let inside : c.loop-index.index < size c.args.column = omega (arith, c.loop-index.invariant.end, c.loop-index-test.true) in
    record {
      fields = ap (λ items. items ++ fields_from (elements_from c.args.column (c.loop-index.index + 1) (size c.args.column - (c.loop-index.index + 1))) c.args.words.now (c.args.at + (c.loop-index.index + 1))) c.in_ok-push_field.ensures
          ∙ elements-joined c.args.column c.loop-index.fields.items c.args.words.now c.args.at c.loop-index.index (sym c.is_kept.ensures ∙ c.if-not-is_kept.false) inside ∙ c.loop-index.invariant.fields;
      end = c.loop-index.invariant.end;
      within = omega (arith, inside);
    }
