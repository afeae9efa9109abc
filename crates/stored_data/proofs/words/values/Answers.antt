use Rattle.std.proofs.Common.{◌+◌, ◌∙◌, ◌++◌, ap, arith, drop, get_or}
use Rattle.std.proofs.lemmas.Grind.{common_steps}
use Rattle.stored_data.specs.Fields.{elements, elements_of}
use Rattle.stored_data.specs.Words.{fields_from}
use Rattle.stored_data.proofs.WordColumns.{fields-joined, width-at}
use Rattle.stored_data.proofs.Elements.{no_column}
use Rattle.stored_data.proofs.words.values.Goals as goal

pub loop-column-preserved : goal.loop-column-preserved
loop-column-preserved c =
    let more = width-at c.args.columns.now c.loop-column.column-index no_column (omega arith) in
    record {
      fields = ap (λ items. items ++ fields_from (elements (drop (c.loop-column.column-index + 1) c.args.columns.now)) c.args.words.now (c.loop-column.at + c.words_of-at.result)) c.in_ok-push_fields.ensures
          ∙ ap (λ n. (c.loop-column.fields.items ++ fields_from (elements_of (get_or c.args.columns.now c.loop-column.column-index no_column)) c.args.words.now c.loop-column.at) ++ fields_from (elements (drop (c.loop-column.column-index + 1) c.args.columns.now)) c.args.words.now (c.loop-column.at + n)) c.words_of-at.ensures
          ∙ fields-joined c.args.columns.now c.loop-column.column-index no_column c.loop-column.fields.items c.args.words.now c.loop-column.at (omega arith) ∙ c.loop-column.invariant.fields;
      within = omega (arith, c.loop-column.invariant.within, more, c.words_of-at.ensures);
      periods = grind (arith, common_steps);
    }
