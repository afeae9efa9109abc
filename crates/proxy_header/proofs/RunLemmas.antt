-- The longest run of zeros among eight groups.
use Rattle.std.proofs.Common.{◌≡◌, ℕ, suc, ◌+◌, ◌<◌, ◌≤◌, ◌==◌, List, [], ◌∷◌, length, drop, drop-cons, get_or, map, max, arith, refl, sym, ◌∙◌, ap, Bool, not, cond, add-one, inl, inr}
use Rattle.std.proofs.lemmas.Bool.{cases_lt, eq-eqb, eqb-true, ne_eqb}
use Rattle.std.proofs.lemmas.Bool.Decides.{nat_tests}
use Rattle.std.proofs.lemmas.List.{drop_more}
use Rattle.std.proofs.lemmas.List.FromFn.{get_or-range_with_len, get_or-map-range_with_len}
use Rattle.std.proofs.lemmas.List.Sums.{passes_at_first, fails_before_first}
use Rattle.std.specs.List.{fold, position_or_len}
use Rattle.std.specs.Ordering.{nat_cmp, ord_max}
use Rattle.std.specs.Prelude.{◌⊎◌, ◌≢◌}
use Rattle.stick_key.specs.Ipv6Printed.{first_longest, longest, places, zeros_from}

-- one group more
pub zeros_from-step : (groups : List ℕ) (i : ℕ) → i < length groups → zeros_from groups i ≡ cond (get_or groups i 0 == 0) (1 + zeros_from groups (i + 1)) 0
zeros_from-step groups i inside = rw (drop-cons groups i 0, add-one)

pub zeros_from-zero : (groups : List ℕ) (i : ℕ) → i < length groups → get_or groups i 0 ≡ 0 → zeros_from groups i ≡ 1 + zeros_from groups (i + 1)
zeros_from-zero groups i inside here = zeros_from-step groups i inside ∙ ap (λ test. cond test (1 + zeros_from groups (i + 1)) 0) (eq-eqb (get_or groups i 0) 0 here)

pub zeros_from-other : (groups : List ℕ) (i : ℕ) → i < length groups → get_or groups i 0 ≢ 0 → zeros_from groups i ≡ 0
zeros_from-other groups i inside here = zeros_from-step groups i inside ∙ ap (λ test. cond test (1 + zeros_from groups (i + 1)) 0) (ne_eqb (get_or groups i 0) 0 here)

-- the places from one on
place_at : (k : ℕ) → k < 8 → get_or places k 0 ≡ k
place_at k inside = get_or-range_with_len 0 8 k 0 inside ∙ omega arith

places_from : (k : ℕ) → k < 8 → drop k places ≡ k ∷ drop (k + 1) places
places_from k inside = drop_more places k 0 inside ∙ ap (λ place. place ∷ drop (k + 1) places) (place_at k inside)

pub is_max : (a b c : ℕ) → c ≡ ord_max nat_cmp a b → c ≡ max a b
is_max a b c is = grind (arith, nat_tests)

-- the longest run that begins before a place, and those from there on
pub longest_more : (groups : List ℕ) (start so_far here next : ℕ) → start < 8 → here ≡ zeros_from groups start → next ≡ max so_far here →
    fold max so_far (map (zeros_from groups) (drop start places)) ≡ longest groups →
    fold max next (map (zeros_from groups) (drop (start + 1) places)) ≡ longest groups
longest_more groups start so_far here next inside is greater so =
    rw (greater, is) (sym (ap (λ l. fold max so_far (map (zeros_from groups) l)) (places_from start inside)) ∙ so)

-- the places whose run is the longest
abbrev pub is_longest : List ℕ → ℕ → Bool
is_longest groups place = zeros_from groups place == longest groups

-- where the first of those is, if none is before a place
abbrev pub first_from : List ℕ → ℕ → ℕ
first_from groups start = start + position_or_len (is_longest groups) (drop start places)

step : (groups : List ℕ) (start : ℕ) → start < 8 →
    position_or_len (is_longest groups) (drop start places) ≡ cond (not (is_longest groups start)) (1 + position_or_len (is_longest groups) (drop (start + 1) places)) 0
step groups start inside = ap (position_or_len (is_longest groups)) (places_from start inside)

pub first_here : (groups : List ℕ) (start : ℕ) → start < 8 → zeros_from groups start ≡ longest groups → first_from groups start ≡ first_longest groups → start ≡ first_longest groups
first_here groups start inside here so =
    let found : position_or_len (is_longest groups) (drop start places) ≡ 0 =
    step groups start inside ∙ ap (λ test. cond (not test) (1 + position_or_len (is_longest groups) (drop (start + 1) places)) 0) (eq-eqb (zeros_from groups start) (longest groups) here) in
    omega (arith, found, so)

pub first_later : (groups : List ℕ) (start : ℕ) → start < 8 → zeros_from groups start ≢ longest groups → first_from groups start ≡ first_longest groups →
    first_from groups (start + 1) ≡ first_longest groups
first_later groups start inside other so =
    let further : position_or_len (is_longest groups) (drop start places) ≡ 1 + position_or_len (is_longest groups) (drop (start + 1) places) =
    step groups start inside ∙ ap (λ test. cond (not test) (1 + position_or_len (is_longest groups) (drop (start + 1) places)) 0) (ne_eqb (zeros_from groups start) (longest groups) other) in
    omega (arith, further, so)

-- the greatest of a list is one of its numbers
fold_max-reached : (xs : List ℕ) (a : ℕ) → (fold max a xs ≡ a) ⊎ ((k : ℕ) × (k < length xs) × (get_or xs k 0 ≡ fold max a xs))
fold_max-reached [] a = inl refl
fold_max-reached (x ∷ xs) a = elim (fold_max-reached xs (max a x)) [
  | inl start ↦ elim (cases_lt a x) [
    | inl less ↦ let greater : x ≡ max a x = omega (arith, less) in inr (0, omega arith, greater ∙ sym start)
    | inr no_less ↦ let greater : max a x ≡ a = omega (arith, no_less) in inl (start ∙ greater)
  ]
  | inr later ↦ inr (suc later.0, omega (arith, later.1), later.2)
]

-- the first place that reaches a number, where one does
first_reached : (z : ℕ → ℕ) (m k : ℕ) → k < 8 → z k ≡ m →
    (position_or_len (λ place. z place == m) places < 8) × (z (position_or_len (λ place. z place == m) places) ≡ m)
first_reached z m k inside same =
    let first : ℕ = position_or_len (λ place. z place == m) places in
    let not_after : k < first → ⊥ = λ before.
    let fails = rw (place_at k inside) at (fails_before_first (λ place. z place == m) places k 0 before) in
    cc (fails, eq-eqb (z k) m same) in
    let within : first < 8 = omega (arith, not_after) in
    (within, eqb-true (z first) m (rw (place_at first within) at (passes_at_first (λ place. z place == m) places 0 within)))

zeros_at : (groups : List ℕ) (k : ℕ) → k < 8 → get_or (map (zeros_from groups) places) k 0 ≡ zeros_from groups k
zeros_at groups k inside = get_or-map-range_with_len (zeros_from groups) 0 8 k k 0 inside (omega arith)

-- the first of the longest runs
pub longest_reached : (groups : List ℕ) → 2 ≤ longest groups → (first_longest groups < 8) × (zeros_from groups (first_longest groups) ≡ longest groups)
longest_reached groups long = elim (fold_max-reached (map (zeros_from groups) places) 0) [
  | inl none ↦ absurd (omega (arith, none, long))
  | inr some ↦ first_reached (zeros_from groups) (longest groups) some.0 some.1 (sym (zeros_at groups some.0 some.1) ∙ some.2)
]
