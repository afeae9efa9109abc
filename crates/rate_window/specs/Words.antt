-- What a meter keeps beside its period, in two words.
use Rattle.std.specs.Prelude.{ℕ, ◌+◌, ◌*◌, ◌/◌, ◌%◌, ◌^◌}
use Rattle.rate_window.specs.Rate.{Tally}

-- the sums of two windows in one word: the later in its upper half, the one before in its lower half
abbrev pub sums_of : Tally → ℕ
sums_of kept = kept.current * 2 ^ 32 + kept.before

-- the tally of a window and such a word
abbrev pub tally_in : ℕ → ℕ → ℕ → Tally
tally_in period window sums = record { period = period; window = window; current = sums / 2 ^ 32; before = sums % 2 ^ 32 }
