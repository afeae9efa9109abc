use Rattle.std.proofs.Common.{◌∙◌, rules, arith, inl, inr}
use Rattle.std.proofs.lemmas.Grind.{common_steps}
use Rattle.stored_data.proofs.WordColumns.{edit-more, width-at}
use Rattle.stored_data.proofs.Elements.{no_column}
use Rattle.stored_data.proofs.words.edit_fields.Goals as goal

pub edit_column-requires-clause-within : goal.edit_column-requires-clause-within
edit_column-requires-clause-within c =
    let more = width-at c.args.columns.now c.loop-column.column-index no_column (omega arith) in
    omega (arith, c.loop-column.invariant.within, c.loop-column.invariant.sized, c.requires.sized, more)

pub overflow_add-at : goal.overflow_add-at
overflow_add-at c =
    let more = width-at c.args.columns.now c.loop-column.column-index no_column (omega arith) in
    omega (arith, c.loop-column.invariant.within, c.loop-column.invariant.sized, c.requires.sized, more)

pub loop-column-preserved : goal.loop-column-preserved
loop-column-preserved c =
    let more = width-at c.args.columns.now c.loop-column.column-index no_column (omega arith) in
    record {
      whole = λ words below rest.
          c.loop-column.invariant.whole words (λ k h. below k (omega arith) ∙ c.edit_column.ensures.elsewhere k (inl h))
          (edit-more c.args.columns.now c.loop-column.column-index _ c.args.edit c.args.words.now c.loop-column.words c.edit_column.new.words words c.loop-column.at _ (omega arith) (search rules) c.loop-column.invariant.left c.edit_column.ensures.fields below rest);
      left = λ k from. c.edit_column.ensures.elsewhere k (inr (omega arith)) ∙ c.loop-column.invariant.left k (omega arith);
      sized = search rules;
      within = omega (arith, c.loop-column.invariant.within, more, c.words_of-at.ensures);
      periods = grind (arith, common_steps);
    }
