-- Lists of tickets that have the same, once both are sorted.
use Rattle.std.proofs.Common.{◌≡◌, ℕ, suc, ◌+◌, ◌<◌, inl, inr, Ordering, Bool, true, false, ◌&&◌, ◌||◌, cond, List, [], ◌∷◌, All, length, get_or, refl, sym, ap, ◌∙◌, subst, arith, ⊎_elim}
use Rattle.std.specs.Prelude.{sum_by, IsPermutation}
use Rattle.std.specs.List.Sorted.{IsSortedByKey}
use Rattle.std.specs.Ordering.{is_lt, nat_cmp, ordering_then}
use lib.Dec.{ltb, leb, eqb}
use Rattle.std.proofs.lemmas.Bool.{cases_Bool, false≢true}
use Rattle.std.proofs.lemmas.Bool.Decides.{nat_tests}
use Rattle.std.proofs.lemmas.Grind.{common_steps}
use Rattle.std.proofs.lemmas.List.Elements.{All-cons, All-tail, All-weaker}
use Rattle.std.proofs.lemmas.List.Sorted.{IsPermutation-sym, IsPermutation-trans, sum_by-IsPermutation}
use Rattle.stick_model.specs.declared.rows.Ticket.{Ticket}
use Rattle.shard_settling.specs.Order.{IsUpTo, Rise}

-- the test of the order
abbrev up_to : Ticket → Ticket → Bool
up_to ticket other = ltb ticket.number other.number || (eqb ticket.number other.number && leb ticket.slot other.slot)

up_to-itself : (t : Ticket) → up_to t t ≡ true
up_to-itself t = grind (arith, nat_tests)

from_test : (t u : Ticket) → up_to t u ≡ true → IsUpTo t u
from_test t u is = grind (arith, nat_tests)

to_test : (t u : Ticket) → IsUpTo t u → up_to t u ≡ true
to_test t u is = grind (arith, nat_tests)

antisym : (t u : Ticket) → IsUpTo t u → IsUpTo u t → (t.number ≡ u.number) × (t.slot ≡ u.slot)
antisym t u (inl a) (inl b) = absurd (omega arith)
antisym t u (inl a) (inr b) = absurd (omega (arith, b.0))
antisym t u (inr a) (inl b) = absurd (omega (arith, a.0))
antisym t u (inr a) (inr b) = (a.0, omega (arith, a.1, b.1))

trans : (t u v : Ticket) → IsUpTo t u → IsUpTo u v → IsUpTo t v
trans t u v (inl a) (inl b) = inl (omega arith)
trans t u v (inl a) (inr b) = inl (omega (arith, b.0))
trans t u v (inr a) (inl b) = inl (omega (arith, a.0))
trans t u v (inr a) (inr b) = inr (a.0 ∙ b.0, omega (arith, a.1, b.1))

-- how many tickets of a list are up to another
abbrev one : Ticket → Ticket → ℕ
one t x = cond (up_to x t) 1 0

sum-cons : (f : Ticket → ℕ) (x : Ticket) (xs : List Ticket) → sum_by f (x ∷ xs) ≡ f x + sum_by f xs
sum-cons f x xs = grind (arith, common_steps)

-- none where the first isn't, and the list rises
none : (t y : Ticket) (ys : List Ticket) → up_to y t ≡ false → All (IsUpTo y) ys → sum_by (one t) ys ≡ 0
none t y [] not all = refl
none t y (z ∷ zs) not all =
    let here : up_to z t ≡ false = ⊎_elim (λ (is : up_to z t ≡ true). absurd (false≢true (sym not ∙ to_test y t (trans y z t (all 0 z (omega arith)) (from_test z t is))))) (λ (f : up_to z t ≡ false). f) (cases_Bool (up_to z t)) in
    let first : sum_by (one t) (z ∷ zs) ≡ one t z + sum_by (one t) zs = sum-cons (one t) z zs in
    let zero_here : one t z ≡ 0 = ap (λ b. cond b 1 0) here in
    let rest : sum_by (one t) zs ≡ 0 = none t y zs not (All-tail (IsUpTo y) z zs all) in
    omega (arith, first, zero_here, rest)

abbrev SameSums : List Ticket → List Ticket → Type 0
SameSums xs ys = (f : Ticket → ℕ) → sum_by f xs ≡ sum_by f ys

-- the first of one is up to the first of the other
first_up_to : (x y : Ticket) (xs ys : List Ticket) → Rise (y ∷ ys) → SameSums (x ∷ xs) (y ∷ ys) → IsUpTo y x
first_up_to x y xs ys rise same =
    ⊎_elim (λ (is : up_to y x ≡ true). from_test y x is)
    (λ (not : up_to y x ≡ false).
    let left : sum_by (one x) (x ∷ xs) ≡ 1 + sum_by (one x) xs = sum-cons (one x) x xs ∙ ap (λ b. cond b 1 0 + sum_by (one x) xs) (up_to-itself x) in
    let right : sum_by (one x) (y ∷ ys) ≡ one x y + sum_by (one x) ys = sum-cons (one x) y ys in
    let zero_here : one x y ≡ 0 = ap (λ b. cond b 1 0) not in
    let rest : sum_by (one x) ys ≡ 0 = none x y ys not rise.0 in
    let equal : sum_by (one x) (x ∷ xs) ≡ sum_by (one x) (y ∷ ys) = same (one x) in
    absurd (omega (arith, left, right, zero_here, rest, equal)))
    (cases_Bool (up_to y x))

same_ticket : (x y : Ticket) → (x.number ≡ y.number) × (x.slot ≡ y.slot) → x ≡ y
same_ticket x y is = λ i. record { number = is.0 i; slot = is.1 i }

rest-sums : (x y : Ticket) (xs ys : List Ticket) → x ≡ y → SameSums (x ∷ xs) (y ∷ ys) → SameSums xs ys
rest-sums x y xs ys is same f =
    let left : sum_by f (x ∷ xs) ≡ f x + sum_by f xs = sum-cons f x xs in
    let right : sum_by f (y ∷ ys) ≡ f y + sum_by f ys = sum-cons f y ys in
    let first : f x ≡ f y = ap f is in
    let equal : sum_by f (x ∷ xs) ≡ sum_by f (y ∷ ys) = same f in
    omega (arith, left, right, first, equal)

risen : (xs ys : List Ticket) → Rise xs → Rise ys → SameSums xs ys → xs ≡ ys
risen [] [] up over same = refl
risen [] (y ∷ ys) up over same = let e : 0 ≡ sum_by (λ (t : Ticket). 1) (y ∷ ys) = same (λ (t : Ticket). 1) in absurd (let c = sum-cons (λ (t : Ticket). 1) y ys in omega (arith, e, c))
risen (x ∷ xs) [] up over same = let e : sum_by (λ (t : Ticket). 1) (x ∷ xs) ≡ 0 = same (λ (t : Ticket). 1) in absurd (let c = sum-cons (λ (t : Ticket). 1) x xs in omega (arith, e, c))
risen (x ∷ xs) (y ∷ ys) up over same =
    let first : x ≡ y = same_ticket x y (antisym x y (first_up_to y x ys xs up (λ f. sym (same f))) (first_up_to x y xs ys over same)) in
    let rest : xs ≡ ys = risen xs ys up.1 over.1 (rest-sums x y xs ys first same) in
    λ i. first i ∷ rest i

-- two lists have the same tickets exactly where they are equal once they are sorted
pub same_sorted : (xs ys us vs : List Ticket) → IsPermutation xs us → Rise us → IsPermutation ys vs → Rise vs → (IsPermutation xs ys → us ≡ vs) × (us ≡ vs → IsPermutation xs ys)
same_sorted xs ys us vs left up right over = (
  λ same. risen us vs up over (λ f. sum_by-IsPermutation f xs us left ∙ sym (sum_by-IsPermutation f xs ys same) ∙ sym (sum_by-IsPermutation f ys vs right)),
  λ same. IsPermutation-trans xs us ys left (subst (λ (l : List Ticket). IsPermutation l ys) (sym same) (IsPermutation-sym ys vs right)),
)

-- ---- what a sort leaves

abbrev key : Ticket → ℕ × ℕ
key t = (t.number, t.slot)

abbrev key_cmp : ℕ × ℕ → ℕ × ℕ → Ordering
key_cmp a b = ordering_then (nat_cmp a.0 b.0) (nat_cmp a.1 b.1)

not_below : (t u : Ticket) → is_lt (key_cmp (key u) (key t)) ≡ false → IsUpTo t u
not_below t u not = grind (arith, nat_tests)

rise_from_adjacent : (xs : List Ticket) → ((k : ℕ) (d : Ticket) → k + 1 < length xs → IsUpTo (get_or xs k d) (get_or xs (k + 1) d)) → Rise xs
rise_from_adjacent [] each = tt
rise_from_adjacent (x ∷ []) each = (λ k d below. absurd (omega arith), tt)
rise_from_adjacent (x ∷ y ∷ ys) each =
    let behind : (k : ℕ) → suc k + 1 ≡ suc (k + 1) = λ k. omega arith in
    let later : (k : ℕ) (d : Ticket) → IsUpTo (get_or (x ∷ y ∷ ys) (suc k) d) (get_or (x ∷ y ∷ ys) (suc k + 1) d) → IsUpTo (get_or (y ∷ ys) k d) (get_or (y ∷ ys) (k + 1) d) =
    λ k d up. subst (λ n. IsUpTo (get_or (y ∷ ys) k d) (get_or (x ∷ y ∷ ys) n d)) (behind k) up in
    let rest : Rise (y ∷ ys) = rise_from_adjacent (y ∷ ys) (λ k d below. later k d (each (suc k) d (omega arith))) in
    let first : IsUpTo x y = each 0 x (omega arith) in
    (All-cons (IsUpTo x) y ys first (All-weaker (IsUpTo y) (IsUpTo x) (λ z up. trans x y z first up) ys rest.0), rest)

pub rise_from_sorted : (xs : List Ticket) → IsSortedByKey key key_cmp xs → Rise xs
rise_from_sorted xs sorted = rise_from_adjacent xs (λ k d below. not_below (get_or xs k d) (get_or xs (k + 1) d) (sorted k d (omega arith) below))
