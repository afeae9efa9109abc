-- What a seat has met at a table, and what one more thing that it meets adds.
use Rattle.std.specs.Prelude.{ℕ, ◌+◌, ◌-◌, ◌^◌, min}
use Rattle.stick_model.specs.declared.replies.Refusal.{Refusal}
use Rattle.stick_model.specs.declared.replies.Refusal.TheVariants.{Stale, Exhausted, Memory, Behind}
use Rattle.shard_book.specs.SeatState.{RefState}
use Rattle.shard_locks.specs.declared.seat_counts.SeatCounts.{SeatCounts}
use Rattle.shard_locks.specs.declared.tracking.Tracking.{Tracking}
use Rattle.shard_locks.specs.declared.tracking.Tracking.TheVariants.{Tracked, Full, NoRefs}

abbrev pub none_met : SeatCounts
none_met = record { full = 0; no_references = 0; stale = 0; exhausted = 0; no_memory = 0 }

-- one more, where the count hasn't ended
abbrev pub one_more : ℕ → ℕ
one_more count = min (count + 1) (2 ^ 64 - 1)

-- the count of a refusal's cause has one more
abbrev pub with_refusal : SeatCounts → Refusal → SeatCounts
with_refusal met Stale = record met { stale = one_more met.stale }
with_refusal met Exhausted = record met { exhausted = one_more met.exhausted }
with_refusal met Memory = record met { no_memory = one_more met.no_memory }
with_refusal met (Behind count front) = met

-- the count of why no reference came has one more
abbrev pub with_tracking : SeatCounts → Tracking RefState → SeatCounts
with_tracking met (Tracked reference row) = met
with_tracking met Full = record met { full = one_more met.full }
with_tracking met NoRefs = record met { no_references = one_more met.no_references }
