-- What a worker's seats have met at their tables, as counts.
use Rattle.std.specs.Prelude.{ℕ, ◌-◌}
use Rattle.shard_locks.specs.declared.seat_counts.SeatCounts.{SeatCounts}
use Rattle.tcp_stats.specs.CountValues.{count_of, with_more}
use Rattle.tcp_stats.specs.declared.count.Count.{Count}
use Rattle.tcp_stats.specs.declared.count.Count.TheVariants.{EventsExhausted, EventsNoMemory, EventsStale, UntrackedFull, UntrackedNoReferences}
use Rattle.tcp_stats.specs.declared.counts.Counts.{Counts}
use Rattle.tcp_relay.specs.Counts.{sum}

-- what two seats have met together
abbrev pub both_met : SeatCounts → SeatCounts → SeatCounts
both_met one other = record {
  full = sum one.full other.full;
  no_references = sum one.no_references other.no_references;
  stale = sum one.stale other.stale;
  exhausted = sum one.exhausted other.exhausted;
  no_memory = sum one.no_memory other.no_memory;
}

-- a count has this number at least
abbrev pub raised : Count → ℕ → Counts → Counts
raised count number counts = with_more counts count (number - count_of counts count)

-- the counts, in which what was met is told
abbrev pub with_met : SeatCounts → Counts → Counts
with_met met counts =
    raised EventsExhausted met.exhausted (raised EventsStale met.stale (raised EventsNoMemory met.no_memory
    (raised UntrackedNoReferences met.no_references (raised UntrackedFull met.full counts))))
