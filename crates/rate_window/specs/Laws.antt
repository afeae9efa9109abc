-- What follows from the definition of a rate.
use Rattle.std.specs.Prelude.{ℕ, ◌≡◌, ◌≤◌, ◌<◌, ◌+◌, ◌-◌, ◌*◌, ◌^◌, List, [], ◌∷◌, ◌++◌, sum_by}
use Rattle.std.specs.List.{AllByRecursion}
use Rattle.rate_window.specs.Rate.{Count, AreUpTo, rate, tally, with_count, rate_of}

-- a rate is never above 2^32 - 1
abbrev pub RatesStop : Type 0
RatesStop = (counts : List Count) (period now : ℕ) → rate counts period now ≤ 2 ^ 32 - 1

-- a rate is never above the sum of all that was counted
abbrev pub RatesAreCounted : Type 0
RatesAreCounted = (counts : List Count) (period now : ℕ) → 0 < period → rate counts period now ≤ sum_by (λ count. count.amount) counts

-- from two periods after the last count on, a rate is 0
abbrev pub RatesFade : Type 0
RatesFade = (counts : List Count) (period now : ℕ) → 0 < period →
    AllByRecursion (λ count. count.moment + 2 * period ≤ now) counts → rate counts period now ≡ 0

-- the tally of a list, with one count more, is the tally of the longer list
abbrev pub TalliesGrow : Type 0
TalliesGrow = (counts : List Count) (period now amount : ℕ) → 0 < period → AreUpTo counts now →
    with_count (tally counts period) (record { moment = now; amount = amount }) ≡ tally (counts ++ record { moment = now; amount = amount } ∷ []) period

-- the tally of a list tells the rate of that list
abbrev pub TalliesTell : Type 0
TalliesTell = (counts : List Count) (period now : ℕ) → 0 < period → AreUpTo counts now → rate_of (tally counts period) now ≡ rate counts period now

-- counts up to a moment stay so with one more at it, and are up to every later moment
pub record CountsGoOn : Type 0 where
  pub counted : (counts : List Count) (now amount : ℕ) → AreUpTo counts now → AreUpTo (counts ++ record { moment = now; amount = amount } ∷ []) now
  pub waited : (counts : List Count) (now later : ℕ) → now ≤ later → AreUpTo counts now → AreUpTo counts later
