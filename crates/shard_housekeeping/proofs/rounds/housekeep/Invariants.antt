use Rattle.std.proofs.Common.{◌≡◌, ℕ, ◌-◌, ◌^◌, min, length}
use Rattle.shard_housekeeping.specs.Keeping.{ByFirst, KeepsRound, none_counted}
use Rattle.shard_housekeeping.proofs.rounds.housekeep.Given as goal

-- some number of rounds were made
abbrev pub invariant-loop : goal.invariant-loop
invariant-loop g l =
    (length l.tables ≡ length l.seats.items)
    × ((count : ℕ) × (l.rounds ≡ min count (2 ^ 64 - 1))
    × ByFirst (λ round. KeepsRound g.C.Clock.shows l.tables) count (record { seats = l.fn.seats.items; clock = g.C.Clock.state l.fn.clock; counts = none_counted }) (record { seats = l.seats.items; clock = g.C.Clock.state l.clock; counts = l.counts }))
