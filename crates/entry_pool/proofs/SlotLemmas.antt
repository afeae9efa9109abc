-- What slots show, and how many have a value.
use Rattle.std.proofs.Common.{◌≡◌, ℕ, zero, suc, ◌+◌, ◌<◌, List, [], ◌∷◌, map, length, get_or, set, replicate, Option, Some, None, is_some, count_by, cond, refl, ap, ◌∙◌, arith}
use Rattle.std.proofs.Math.ListN.{get_or-map}
use Rattle.std.proofs.lemmas.List.Sums.{sum_by-set, sum_by-cons}
use Rattle.entry_pool.specs.Contents.{Entry}
use Rattle.entry_pool.specs.declared.Live.{Live}
use Rattle.entry_pool.specs.Slots.{shown}

pub none_some : {X : Type 0} {x : X} → None ≡ Some x → ⊥
none_some e = cc

pub same_some : {X : Type 0} {x y : X} → Some x ≡ Some y → x ≡ y
same_some e = cc

-- places that have nothing are so many times nothing
pub all_none : {X : Type 0} (xs : List (Option X)) (n : ℕ) → length xs ≡ n → ((i : ℕ) → i < n → get_or xs i None ≡ None) → xs ≡ replicate n None
all_none [] zero long none = refl
all_none [] (suc n) long none = absurd (omega (arith, long))
all_none (x ∷ xs) zero long none = absurd (omega (arith, long))
all_none {X = X} (x ∷ xs) (suc n) long none =
    let first : x ≡ None = none 0 (omega arith) in
    let rest : xs ≡ replicate n None = all_none xs n (omega (arith, long)) (λ i within. none (suc i) (omega (arith, within))) in
    ap (λ (y : Option X). y ∷ xs) first ∙ ap (λ (ys : List (Option X)). None ∷ ys) rest

-- a place that has something is one of those that there are
pub get_within : {X : Type 0} (xs : List (Option X)) (i : ℕ) (x : X) → get_or xs i None ≡ Some x → i < length xs
get_within [] i x found = absurd (none_some found)
get_within (y ∷ ys) zero x found = omega arith
get_within (y ∷ ys) (suc i) x found = omega (arith, get_within ys i x found)

module _ {T : Type 0} where
  pub shown_get : (places : List (Option (Live T))) (slot : ℕ) → get_or (map shown places) slot None ≡ shown (get_or places slot None)
  shown_get places slot = get_or-map shown places slot None

  -- the values are those of the places
  one_counted : (place : Option (Live T)) → ◌≡◌ {A = ℕ} (cond (is_some (shown place)) 1 0) (cond (is_some place) 1 0)
  one_counted None = refl
  one_counted (Some live) = refl

  pub shown_count : (places : List (Option (Live T))) → count_by is_some (map shown places) ≡ count_by is_some places
  shown_count [] = refl
  shown_count (p ∷ ps) =
      omega (arith, sum_by-cons (λ (o : Option (Entry T)). cond (is_some o) 1 0) (shown p) (map shown ps), sum_by-cons (λ (o : Option (Live T)). cond (is_some o) 1 0) p ps, shown_count ps, one_counted p)

  -- how many have a value, where one place is written
  pub count_set : (places : List (Option (Live T))) (slot : ℕ) (new : Option (Live T)) → slot < length places
      → count_by is_some (set places slot new) + cond (is_some (get_or places slot None)) 1 0 ≡ count_by is_some places + cond (is_some new) 1 0
  count_set places slot new within = sum_by-set (λ (o : Option (Live T)). cond (is_some o) 1 0) places slot new None within

  -- places with nothing show nothing
  pub none_shown : (n : ℕ) → map (shown {T = T}) (replicate n None) ≡ replicate n None
  none_shown zero = refl
  none_shown (suc n) = ap (λ (rest : List (Option (Entry T))). None ∷ rest) (none_shown n)
