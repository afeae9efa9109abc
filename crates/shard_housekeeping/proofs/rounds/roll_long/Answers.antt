use Rattle.std.proofs.Common.{◌≡◌, Some}
use Rattle.std.specs.Prelude.{slice_get}
use Rattle.shard_housekeeping.specs.Keeping.{RollsPlace, none_counted}
use Rattle.shard_housekeeping.proofs.KeepingLemmas.{by_first_more, get_at}
use Rattle.shard_housekeeping.proofs.rounds.roll_long.Goals as goal

pub loop-place-preserved : goal.loop-place-preserved
loop-place-preserved g c =
    let tables = c.args.tables.now in
    let place = c.loop-place.place in
    let there : slice_get tables place ≡ Some c.index-tables-place.result = get_at tables place c.index-tables-place.result c.loop-place-test.true c.index-tables-place.is in
    by_first_more (RollsPlace tables) place none_counted c.loop-place.counts c.roll_table.new.counts c.loop-place.invariant (c.index-tables-place.result, there, c.roll_table.ensures)
