use Rattle.std.proofs.Common.{◌∙◌, sym}
use Rattle.shard_housekeeping.specs.Keeping.{none_counted}
use Rattle.shard_housekeeping.proofs.KeepingLemmas.{rounds_more}
use Rattle.shard_housekeeping.proofs.rounds.housekeep.Goals as goal

pub loop-preserved : goal.loop-preserved
loop-preserved g c =
    let was = c.loop.invariant.1 in
    let state = g.C.Clock.state in (
      c.loop.invariant.0 ∙ sym c.keep_round.ensures.seats,
      rounds_more g.C.Clock.shows c.args.tables.now was.0 c.loop.rounds c.saturating_add-rounds.result (record { seats = c.args.seats.items; clock = state c.args.clock.now; counts = none_counted })
          (record { seats = c.loop.seats.items; clock = state c.loop.clock; counts = c.loop.counts }) (record { seats = c.keep_round.new.seats.items; clock = state c.keep_round.new.clock; counts = c.keep_round.new.counts })
          was.1 c.saturating_add-rounds.ensures was.2 c.keep_round.ensures.kept,
    )
