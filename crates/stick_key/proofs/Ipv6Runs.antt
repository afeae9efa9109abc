-- Runs of zeros among eight groups.
use Rattle.std.proofs.Common.{◌≡◌, ℕ, suc, zero, ◌+◌, ◌<◌, ◌≤◌, ◌==◌, List, [], ◌∷◌, length, length-drop, drop, drop-cons, get_or, map, max, arith, sym, ◌∙◌, true, false, cond, add-one}
use Rattle.std.proofs.lemmas.Bool.Decides.{nat_tests}
use Rattle.std.proofs.lemmas.List.FromFn.{get_or-range_with_len, get_or-map-range_with_len}
use Rattle.std.proofs.lemmas.List.Sums.{position_or_len_is, prefix_len-le-length}
use Rattle.std.specs.List.{fold}
use Rattle.stick_key.specs.Ipv6Printed.{zeros_from, places, longest, first_longest}

less_test : (a b : ℕ) → a < b → (a == b) ≡ false
less_test a b less = grind (arith, nat_tests)

pub same_test : (a b : ℕ) → a ≡ b → (a == b) ≡ true
same_test a b same = grind (arith, nat_tests)

-- one group more
pub zeros_from-step : (groups : List ℕ) (i : ℕ) → i < length groups → zeros_from groups i ≡ (cond (get_or groups i 0 == 0) (1 + zeros_from groups (i + 1)) 0)
zeros_from-step groups i inside = rw (drop-cons groups i 0, add-one)

pub zeros_from-within : (groups : List ℕ) (i : ℕ) → i ≤ length groups → i + zeros_from groups i ≤ length groups
zeros_from-within groups i inside = omega (arith, prefix_len-le-length (λ group. group == 0) (drop i groups), length-drop i groups)

-- the greatest of a list
fold_max-le : (xs : List ℕ) (a m : ℕ) → a ≤ m → ((k : ℕ) → k < length xs → get_or xs k 0 ≤ m) → fold max a xs ≤ m
fold_max-le [] a m start each = start
fold_max-le (x ∷ xs) a m start each = fold_max-le xs (max a x) m (omega (arith, each 0 (omega arith))) (λ k inside. each (suc k) (omega arith))

le-fold_max_start : (xs : List ℕ) (a : ℕ) → a ≤ fold max a xs
le-fold_max_start [] a = omega arith
le-fold_max_start (x ∷ xs) a = omega (arith, le-fold_max_start xs (max a x))

pub le-fold_max : (xs : List ℕ) (a k : ℕ) → k < length xs → get_or xs k 0 ≤ fold max a xs
le-fold_max [] a k inside = absurd (omega arith)
le-fold_max (x ∷ xs) a zero inside = omega (arith, le-fold_max_start xs (max a x))
le-fold_max (x ∷ xs) a (suc k) inside = le-fold_max xs (max a x) k (omega arith)

pub place_at : (k : ℕ) → k < 8 → get_or places k 0 ≡ k
place_at k inside = get_or-range_with_len 0 8 k 0 inside ∙ omega arith

pub zeros_at : (groups : List ℕ) (k : ℕ) → k < 8 → get_or (map (zeros_from groups) places) k 0 ≡ zeros_from groups k
zeros_at groups k inside = get_or-map-range_with_len (zeros_from groups) 0 8 k k 0 inside (omega arith)

-- the run that begins at the start, of this length: none is longer, and those before are shorter
pub record IsLongestRun (groups : List ℕ) (start count : ℕ) : Type 0 where
  pub reached : zeros_from groups start ≡ count
  pub most : (k : ℕ) → k < 8 → zeros_from groups k ≤ count
  pub first : (k : ℕ) → k < start → zeros_from groups k < count
  pub inside : start ≤ 8

pub longest_is : (groups : List ℕ) (start count : ℕ) → length groups ≡ 8 → IsLongestRun groups start count → longest groups ≡ count
longest_is groups start count eight run =
    let above : longest groups ≤ count = fold_max-le (map (zeros_from groups) places) 0 count (omega arith) (λ k inside. rw (zeros_at groups k inside) (run.most k inside)) in
    let not_below : longest groups < count → ⊥ = λ less.
    let within : start < 8 = omega (arith, run.reached, run.inside, eight, less, zeros_from-within groups start (omega (arith, run.inside, eight))) in
    omega (arith, less, run.reached, zeros_at groups start within, le-fold_max (map (zeros_from groups) places) 0 start within) in
    omega (arith, above, not_below)

pub first_longest_is : (groups : List ℕ) (start count : ℕ) → length groups ≡ 8 → IsLongestRun groups start count → first_longest groups ≡ start
first_longest_is groups start count eight run =
    let same : longest groups ≡ count = longest_is groups start count eight run in
    position_or_len_is (λ place. zeros_from groups place == longest groups) places start 0 run.inside
    (λ k before. let within : k < 8 = omega (arith, run.inside) in
    rw (place_at k within) (less_test (zeros_from groups k) (longest groups) (omega (arith, run.first k before))))
    (λ within. rw (place_at start within) (same_test (zeros_from groups start) (longest groups) (run.reached ∙ sym same)))
