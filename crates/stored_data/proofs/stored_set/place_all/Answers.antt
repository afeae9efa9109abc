use Rattle.std.proofs.Common.{◌+◌, ◌++◌, ◌∙◌, arith, drop}
use Rattle.stored_data.specs.Fields.{elements}
use Rattle.stored_data.specs.Places.{placed_from}
use Rattle.stored_data.proofs.Elements.{no_column}
use Rattle.stored_data.proofs.Placed.{columns-joined}
use Rattle.stored_data.proofs.WordColumns.{narrow, width-at}
use Rattle.stored_data.proofs.stored_set.place_all.Goals as goal

pub push_places-requires : goal.push_places-requires
push_places-requires c =
    let more = width-at c.args.columns.now c.loop-column.column-index no_column (omega arith) in
    omega (arith, c.loop-column.invariant.words, more, narrow c.args.columns.now c.requires)

pub overflow_add-at : goal.overflow_add-at
overflow_add-at c =
    let more = width-at c.args.columns.now c.loop-column.column-index no_column (omega arith) in
    omega (arith, c.loop-column.invariant.words, c.words_of-at.ensures, more, narrow c.args.columns.now c.requires)

pub loop-column-preserved : goal.loop-column-preserved
loop-column-preserved c =
    let more = width-at c.args.columns.now c.loop-column.column-index no_column (omega arith) in
    record {
      places = (λ i. c.in_ok-push_places.ensures i ++ placed_from (elements (drop (c.loop-column.column-index + 1) c.args.columns.now)) (c.loop-column.at + c.words_of-at.ensures i))
          ∙ columns-joined c.args.columns.now c.loop-column.column-index no_column c.loop-column.places.items c.loop-column.at (omega arith) ∙ c.loop-column.invariant.places;
      words = omega (arith, c.loop-column.invariant.words, c.words_of-at.ensures, more);
    }
