-- Sums over lists where one item changes.
use Rattle.std.proofs.Common.{◌≡◌, ℕ, zero, suc, ◌+◌, ◌≤◌, ◌<◌, length, refl, sym, ap, arith, false, nat_eq, List, [], ◌∷◌, sum_by, slice_get, slice_set, Some, None}
use Rattle.std.proofs.lemmas.Bool.{false≢true}
use Rattle.std.proofs.lemmas.Bool.Decides.{nat_tests}
use Rattle.std.proofs.lemmas.List.Sums.{sum_by-cons}

pub some_same : {X : Type 0} (x y : X) → Some x ≡ Some y → x ≡ y
some_same x y e = cc

-- one item is another
pub sum_set : {X : Type 0} (f : X → ℕ) (xs : List X) (i : ℕ) (y x : X) → slice_get xs i ≡ Some x → sum_by f (slice_set xs i y) + f x ≡ sum_by f xs + f y
sum_set f [] i y x at = absurd (cc)
sum_set f (z ∷ xs) zero y x at =
    let is : f z ≡ f x = ap f (some_same z x at) in
    omega (arith, is, sum_by-cons f z xs, sum_by-cons f y xs)
sum_set f (z ∷ xs) (suc i) y x at = omega (arith, sum_set f xs i y x at, sum_by-cons f z xs, sum_by-cons f z (slice_set xs i y))

-- no item is more than the sum
pub sum_at : {X : Type 0} (f : X → ℕ) (xs : List X) (i : ℕ) (x : X) → slice_get xs i ≡ Some x → f x ≤ sum_by f xs
sum_at f [] i x at = absurd (cc)
sum_at f (z ∷ xs) zero x at = let is : f z ≡ f x = ap f (some_same z x at) in omega (arith, is, sum_by-cons f z xs)
sum_at f (z ∷ xs) (suc i) x at = omega (arith, sum_at f xs i x at, sum_by-cons f z xs)

-- ---- places

pub get_set_same : {X : Type 0} (xs : List X) (i : ℕ) (y x : X) → slice_get xs i ≡ Some x → slice_get (slice_set xs i y) i ≡ Some y
get_set_same [] i y x at = absurd (cc)
get_set_same (z ∷ xs) zero y x at = refl
get_set_same (z ∷ xs) (suc i) y x at = get_set_same xs i y x at

pred_differ : (i j : ℕ) → nat_eq (suc j) (suc i) ≡ false → nat_eq j i ≡ false
pred_differ i j differ = grind (arith, nat_tests)

pub get_set_other : {X : Type 0} (xs : List X) (i j : ℕ) (y : X) → nat_eq j i ≡ false → slice_get (slice_set xs i y) j ≡ slice_get xs j
get_set_other [] i j y differ = refl
get_set_other (z ∷ xs) zero zero y differ = absurd (false≢true (sym differ))
get_set_other (z ∷ xs) zero (suc j) y differ = refl
get_set_other (z ∷ xs) (suc i) zero y differ = refl
get_set_other (z ∷ xs) (suc i) (suc j) y differ = get_set_other xs i j y (pred_differ i j differ)

pub get_within : {X : Type 0} (xs : List X) (i : ℕ) → slice_get xs i ≡ None → i < length xs → ⊥
get_within [] i none within = omega (arith, within)
get_within (z ∷ xs) zero none within = cc
get_within (z ∷ xs) (suc i) none within = get_within xs i none (omega (arith, within))
