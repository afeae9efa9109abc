use Rattle.std.proofs.Common.{◌<◌, ◌-◌, ◌+◌, ◌++◌, ◌∙◌, arith}
use Rattle.stored_data.specs.Fields.{elements_from, size}
use Rattle.stored_data.specs.Places.{placed_from}
use Rattle.stored_data.proofs.Placed.{places-joined, words-joined}
use Rattle.stored_data.proofs.stored_set.push_places.Goals as goal

pub overflow_add-next : goal.overflow_add-next
overflow_add-next c =
    let inside : c.loop-index._index < size c.args.column = omega (arith, c.loop-index.invariant.end, c.loop-index-test.true) in
    omega (arith, c.words_each-each.ensures, c.loop-index.invariant.words, words-joined c.args.column c.loop-index._index inside, c.requires)

pub loop-index-preserved : goal.loop-index-preserved
loop-index-preserved c =
    let inside : c.loop-index._index < size c.args.column = omega (arith, c.loop-index.invariant.end, c.loop-index-test.true) in
    record {
      places = (λ i. c.in_ok-push.ensures.items i ++ placed_from (elements_from c.args.column (c.loop-index._index + 1) (size c.args.column - (c.loop-index._index + 1))) (c.loop-index.next + c.words_each-each.ensures i))
          ∙ places-joined c.args.column c.loop-index.places.items c.loop-index._index c.loop-index.next inside ∙ c.loop-index.invariant.places;
      words = omega (arith, c.words_each-each.ensures, c.loop-index.invariant.words, words-joined c.args.column c.loop-index._index inside);
      end = c.loop-index.invariant.end;
      within = omega (arith, inside);
    }
