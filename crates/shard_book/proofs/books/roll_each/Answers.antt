use Rattle.std.proofs.Common.{◌≡◌, ◌<◌, List, Some, length, slice_get, sym, ap, ◌∙◌, arith}
use Rattle.std.proofs.lemmas.Option.{slice_get-get_or}
use Rattle.shard_book.specs.BookState.{BookState}
use Rattle.shard_book.proofs.RollLemmas.{length-rolled_first, rolled_more}
use Rattle.shard_book.proofs.books.roll_each.Goals as goal

pub loop-shard-preserved : goal.loop-shard-preserved
loop-shard-preserved g c =
    let old : List BookState = c.args.books.now.items in
    let count : length c.loop-shard.books.items ≡ length old = ap length c.loop-shard.invariant ∙ length-rolled_first c.loop-shard.shard old in
    let within : c.loop-shard.shard < length old = omega (arith, c.loop-shard-test.true, c.as_slice-shard-end.ensures.len, ap length c.as_slice-shard-end.ensures.value) in
    let at : slice_get c.loop-shard.books.items c.loop-shard.shard ≡ Some c.index_mut.result.now = slice_get-get_or c.loop-shard.books.items c.loop-shard.shard c.index_mut.result.now (omega (arith, within, count)) ∙ ap Some (sym c.index_mut.ensures.value) in
    rolled_more c.loop-shard.shard old c.loop-shard.books.items c.index_mut.result.now c.roll.new.self within c.loop-shard.invariant at c.in-Ok.ensures.ok
