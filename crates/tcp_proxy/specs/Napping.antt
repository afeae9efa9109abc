-- How long housekeeping waits between two looks for long records.
use Rattle.std.specs.Prelude.{ℕ, ◌||◌, min, nat_lt, if◌then◌else◌}
use Rattle.shard_housekeeping.specs.declared.counts.Counts.{Counts}

-- how long it waits, in ms, by what the last look came to, and by how much is left until the next round: 50 ms while records are long, as more grow while calls are many, else 250
abbrev pub nap_of : Counts → ℕ → ℕ
nap_of last left = min (if nat_lt 0 last.rolled || nat_lt 0 last.refused then 50 else 250) left
