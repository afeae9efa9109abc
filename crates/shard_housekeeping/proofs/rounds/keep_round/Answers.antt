use Rattle.std.proofs.Common.{◌≡◌, Some, refl, length, arith, rules}
use Rattle.std.specs.Prelude.{slice_get, slice_set}
use Rattle.shard_housekeeping.specs.Keeping.{KeepsPlace}
use Rattle.shard_housekeeping.proofs.KeepingLemmas.{by_first_more, get_at}
use Rattle.shard_housekeeping.proofs.rounds.keep_round.Goals as goal

pub loop-place-preserved : goal.loop-place-preserved
loop-place-preserved g c =
    let state = g.C.Clock.state in
    let tables = c.args.tables.now in
    let place = c.loop-place.place in
    let before = c.loop-place.seats.items in
    let size : length tables ≡ length (slice_set before place c.keep_table.new.seat) = search rules in
    let there : slice_get tables place ≡ Some c.index-tables-place.result = get_at tables place c.index-tables-place.result c.loop-place-test.true c.index-tables-place.is in
    let seat : slice_get before place ≡ Some c.index_mut-seat.result.now = get_at before place c.index_mut-seat.result.now (omega (arith, c.loop-place-test.true, c.loop-place.invariant.size)) c.index_mut-seat.ensures.value in
    record {
      size = size;
      kept = by_first_more (KeepsPlace g.C.Clock.shows tables) place (record { seats = c.args.seats.now.items; clock = state c.args.clock.now; counts = c.args.counts.now }) (record { seats = before; clock = state c.loop-place.clock; counts = c.loop-place.counts })
          (record { seats = slice_set before place c.keep_table.new.seat; clock = state c.keep_table.new.clock; counts = c.keep_table.new.counts }) c.loop-place.invariant.kept
          (record { table = c.index-tables-place.result; before = c.index_mut-seat.result.now; after = c.keep_table.new.seat; there = there; seat = seat; kept = c.keep_table.ensures; seats = refl });
    }
