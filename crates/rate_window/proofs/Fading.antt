-- Bounds of a rate.
use Rattle.std.proofs.Common.{◌≡◌, ℕ, suc, zero, ◌+◌, ◌-◌, ◌*◌, ◌/◌, ◌%◌, ◌<◌, ◌≤◌, ◌==◌, List, [], ◌∷◌, arith, refl, true, false, Bool, ap, lit<}
use Rattle.std.specs.Prelude.{sum_by, filter, min, if◌then◌else◌}
use Rattle.std.specs.List.{AllByRecursion}
use Rattle.std.proofs.lemmas.Bool.Decides.{nat_tests}
use Rattle.std.proofs.lemmas.List.Sums.{sum_by-cons}
use Rattle.std.proofs.Math.Nat.{div-mul-le_self, div-le_self, div-le_of_le-mul, mul-le-mul_left}
use Rattle.std.proofs.lemmas.Nat.{le-div}
use Rattle.rate_window.specs.Laws.{RatesStop, RatesAreCounted, RatesFade}
use Rattle.rate_window.specs.Rate.{Count, most, counted_in, counted_before}
use Rattle.rate_window.proofs.Counts.{sum_in}

pub rates_stop : RatesStop
rates_stop counts period now = omega arith

-- a moment two periods back lies two windows back
two_windows : (moment period now : ℕ) → 0 < period → moment + 2 * period ≤ now → moment / period + 2 ≤ now / period
two_windows moment period now some back = le-div (moment / period + 2) now period some (omega (arith, div-mul-le_self moment period))

-- nothing was counted in a window that is later than all of them
sum_in-later : (counts : List Count) (period w : ℕ) → AllByRecursion (λ count. count.moment / period < w) counts → sum_in counts period w ≡ 0
unfolding sum_in
sum_in-later [] period w below = refl
sum_in-later (count ∷ counts) period w below =
    let other : (count.moment / period == w) ≡ false = let first = below.0 in grind (arith, nat_tests) in
    rw other (sum_in-later counts period w below.1)

-- all lie before the window, and before the one before it
all_before : (counts : List Count) (period now w : ℕ) → 0 < period → now / period ≤ w + 1 →
    AllByRecursion (λ count. count.moment + 2 * period ≤ now) counts → AllByRecursion (λ count. count.moment / period < w) counts
all_before [] period now w some near back = tt
all_before (count ∷ counts) period now w some near back =
    (omega (arith, two_windows count.moment period now some back.0), all_before counts period now w some near back.1)

before_none : (counts : List Count) (period w : ℕ) → ((v : ℕ) → w ≡ suc v → sum_in counts period v ≡ 0) → counted_before counts period w ≡ 0
unfolding sum_in
before_none counts period zero none = refl
before_none counts period (suc v) none =
    let some : (suc v == 0) ≡ false = grind (arith, nat_tests) in
    let back : suc v - 1 ≡ v = omega arith in
    rw (some, back) (ap (min most) (none v refl))

-- a rate with nothing in its two windows is 0
pub no_rate : (current before reach period : ℕ) → current ≡ 0 → before ≡ 0 → min most (current + before * reach / period) ≡ 0
no_rate current before reach period none none_before = rw (none, none_before) (omega (arith, div-le_self (0 * reach) period))

pub rates_fade : RatesFade
unfolding sum_in
rates_fade counts period now some back =
    no_rate (counted_in counts period (now / period)) (counted_before counts period (now / period)) (period - now % period) period
    (ap (min most) (sum_in-later counts period (now / period) (all_before counts period now (now / period) some (omega arith) back)))
    (before_none counts period (now / period) (λ v here. sum_in-later counts period v (all_before counts period now v some (omega arith) back)))

sum_in-cons : (count : Count) (counts : List Count) (period w : ℕ) → (test : Bool) → (count.moment / period == w) ≡ test →
    sum_in (count ∷ counts) period w ≡ (if test then count.amount else 0) + sum_in counts period w
unfolding sum_in
sum_in-cons count counts period w true tested = rw tested (sum_by-cons (λ each. each.amount) count (filter (λ each. each.moment / period == w) counts))
sum_in-cons count counts period w false tested = rw tested (omega arith)

one_window : (a w v : ℕ) (test other : Bool) → v < w → (a == w) ≡ test → (a == v) ≡ other → (amount : ℕ) → (if test then amount else 0) + (if other then amount else 0) ≤ amount
one_window a w v true true apart here there amount = grind (arith, nat_tests)
one_window a w v true false apart here there amount = omega arith
one_window a w v false true apart here there amount = omega arith
one_window a w v false false apart here there amount = omega arith

-- the sums in two windows are no more than all that was counted
two_sums : (counts : List Count) (period w v : ℕ) → v < w → sum_in counts period w + sum_in counts period v ≤ sum_by (λ count. count.amount) counts
unfolding sum_in
two_sums [] period w v apart = omega arith
two_sums (count ∷ counts) period w v apart =
    omega (
      arith,
      sum_in-cons count counts period w (count.moment / period == w) refl,
      sum_in-cons count counts period v (count.moment / period == v) refl,
      sum_by-cons (λ each. each.amount) count counts,
      one_window (count.moment / period) w v (count.moment / period == w) (count.moment / period == v) apart refl refl count.amount,
      two_sums counts period w v apart,
    )

-- a part of the window before is no more than that
part : (before reach period : ℕ) → reach ≤ period → before * reach / period ≤ before
part before reach period within = div-le_of_le-mul period (omega (arith, mul-le-mul_left before within))

both : (counts : List Count) (period w : ℕ) → counted_in counts period w + counted_before counts period w ≤ sum_by (λ count. count.amount) counts
unfolding sum_in
both counts period zero = omega (arith, two_sums counts period 1 0 (lit< tt))
both counts period (suc v) =
    let some : (suc v == 0) ≡ false = grind (arith, nat_tests) in
    let back : suc v - 1 ≡ v = omega arith in
    rw (some, back) (omega (arith, two_sums counts period (suc v) v (omega arith)))

pub rates_are_counted : RatesAreCounted
rates_are_counted counts period now some =
    omega (
      arith,
      both counts period (now / period),
      part (counted_before counts period (now / period)) (period - now % period) period (omega arith),
    )
