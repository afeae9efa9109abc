-- So many of each count.
use Rattle.std.specs.Prelude.{ℕ, ◌+◌, ◌-◌, ◌^◌, min, slice_index, slice_set}
use Rattle.tcp_stats.specs.CountNames.{place}
use Rattle.tcp_stats.specs.declared.count.Count.{Count}
use Rattle.tcp_stats.specs.declared.count.Count.TheVariants.{Accepted, Admitted, Rejected}
use Rattle.tcp_stats.specs.declared.counts.Counts.{Counts}

-- how many of a count there are
abbrev pub count_of : Counts → Count → ℕ
count_of counts count = slice_index counts.values (place count)

-- a sum that stays at the greatest number of 64 bits
abbrev pub capped_sum : ℕ → ℕ → ℕ
capped_sum a b = min (a + b) (2 ^ 64 - 1)

-- the counts with so many more of one, and the others as they were
abbrev pub with_more : Counts → Count → ℕ → Counts
with_more counts count amount = record { values = slice_set counts.values (place count) (capped_sum (count_of counts count) amount) }

-- the clients that were accepted and neither admitted nor rejected yet
abbrev pub in_hand : Counts → ℕ
in_hand counts = count_of counts Accepted - count_of counts Admitted - count_of counts Rejected
