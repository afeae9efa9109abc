use Rattle.std.proofs.Common.{◌≡◌, length}
use Rattle.shard_housekeeping.specs.Keeping.{ByFirst, KeepsPlace}
use Rattle.shard_housekeeping.proofs.rounds.keep_round.Given as goal

-- the tables of the first places were kept
abbrev pub invariant-loop-place : goal.invariant-loop-place
invariant-loop-place g l = record {
  size : length l.tables ≡ length l.seats.items;
  kept : ByFirst (KeepsPlace g.C.Clock.shows l.tables) l.place (record { seats = l.fn.seats.items; clock = g.C.Clock.state l.fn.clock; counts = l.fn.counts }) (record { seats = l.seats.items; clock = g.C.Clock.state l.clock; counts = l.counts });
}
