-- The first slots of a list, as a walk over them has met them: the others count as empty.
use Rattle.std.proofs.Common.{◌≡◌, ℕ, zero, suc, ◌+◌, ◌<◌, ◌≤◌, refl, sym, ◌∙◌, ap, subst, arith, List, [], ◌∷◌, length, get_or, set, cond, Option, Some, None, is_some, count_by}
use Rattle.std.specs.BTreeMap.{insert_entry}
use Rattle.std.specs.Cmp.{IsTotalOrder}
use Rattle.std.specs.declared.cmp.Ordering.{Ordering}
use Rattle.std.proofs.lemmas.List.Sums.{sum_by-cons}
use Rattle.std.proofs.lemmas.Map.Lookups.{CmpEqualImpliesEq}
use Rattle.entry_pool.proofs.SlotLemmas.{get_within}
use Rattle.stick_pooled.specs.Slots.{entries_of, IsDistinctIn}
use Rattle.stick_pooled.proofs.SlotLemmas.{entries-insert}
use Rattle.stick_pooled.proofs.StockLemmas.{none_some}

module _ {E : Type 0} where
  abbrev pub first : ℕ → List (Option E) → List (Option E)
  first n [] = []
  first zero (o ∷ os) = None ∷ first zero os
  first (suc n) (o ∷ os) = o ∷ first n os

  pub length-first : (n : ℕ) (os : List (Option E)) → length (first n os) ≡ length os
  length-first n [] = refl
  length-first zero (o ∷ os) = let rest = length-first zero os in omega (arith, rest)
  length-first (suc n) (o ∷ os) = let rest = length-first n os in omega (arith, rest)

  pub first-set : (n : ℕ) (os : List (Option E)) → first (suc n) os ≡ set (first n os) n (get_or os n None)
  first-set n [] = refl
  first-set zero (o ∷ os) = refl
  first-set (suc n) (o ∷ os) = ap (λ rest. o ∷ rest) (first-set n os)

  -- one more that is empty changes nothing
  pub first-empty : (n : ℕ) (os : List (Option E)) → get_or os n None ≡ None → first (suc n) os ≡ first n os
  first-empty n [] is = refl
  first-empty zero (o ∷ os) is = ap (λ p. p ∷ first zero os) is
  first-empty (suc n) (o ∷ os) is = ap (λ rest. o ∷ rest) (first-empty n os is)

  -- the next one isn't among them
  not-yet : (n : ℕ) (os : List (Option E)) → get_or (first n os) n None ≡ None
  not-yet n [] = refl
  not-yet zero (o ∷ os) = refl
  not-yet (suc n) (o ∷ os) = not-yet n os

  first-get : (n j : ℕ) (os : List (Option E)) (e : E) → get_or (first n os) j None ≡ Some e → get_or os j None ≡ Some e
  first-get n j [] e is = absurd (none_some is)
  first-get zero zero (o ∷ os) e is = absurd (none_some is)
  first-get zero (suc j) (o ∷ os) e is = first-get zero j os e is
  first-get (suc n) zero (o ∷ os) e is = is
  first-get (suc n) (suc j) (o ∷ os) e is = first-get n j os e is

  abbrev pub one : Option E → ℕ
  one o = cond (is_some o) 1 0

  count-cons : (o : Option E) (os : List (Option E)) → count_by is_some (o ∷ os) ≡ one o + count_by is_some os
  count-cons o os = sum_by-cons (λ (p : Option E). cond {A = ℕ} (is_some p) 1 0) o os

  pub none-counts : (os : List (Option E)) → count_by is_some (first zero os) ≡ 0
  none-counts [] = refl
  none-counts (o ∷ os) = let rest = none-counts os in let all = count-cons None (first zero os) in omega (arith, rest, all)

  pub first-count : (n : ℕ) (os : List (Option E)) → count_by is_some (first (suc n) os) ≡ one (get_or os n None) + count_by is_some (first n os)
  first-count n [] = omega arith
  first-count zero (o ∷ os) = let all = count-cons o (first zero os) in let fewer = count-cons None (first zero os) in omega (arith, all, fewer)
  first-count (suc n) (o ∷ os) =
      let rest = first-count n os in
      let all = count-cons o (first (suc n) os) in
      let fewer = count-cons o (first n os) in
      omega (arith, rest, all, fewer)

  all-empty : (os : List (Option E)) → count_by is_some os ≡ 0 → first zero os ≡ os
  all-empty [] none = refl
  all-empty (None ∷ os) none = let all = count-cons None os in ap (λ rest. None ∷ rest) (all-empty os (omega (arith, all, none)))
  all-empty (Some e ∷ os) none = let more : count_by is_some (Some e ∷ os) ≡ 1 + count_by is_some os = count-cons (Some e) os in absurd (omega (arith, more, none))

  -- where they have as many as all have, the others are empty
  pub first-has_all : (n : ℕ) (os : List (Option E)) → count_by is_some (first n os) ≡ count_by is_some os → first n os ≡ os
  first-has_all n [] same = refl
  first-has_all zero (o ∷ os) same = all-empty (o ∷ os) (sym same ∙ none-counts (o ∷ os))
  first-has_all (suc n) (o ∷ os) same =
      let all = count-cons o os in
      let some = count-cons o (first n os) in
      ap (λ rest. o ∷ rest) (first-has_all n os (omega (arith, same, all, some)))

  pub first-is_all : (n : ℕ) (os : List (Option E)) → length os ≤ n → first n os ≡ os
  first-is_all n [] past = refl
  first-is_all zero (o ∷ os) past = absurd (omega (arith, past))
  first-is_all (suc n) (o ∷ os) past = ap (λ rest. o ∷ rest) (first-is_all n os (omega (arith, past)))

module _ {K X : Type 0} (R : K → K → Ordering) where
  -- of none of them there is no entry
  pub first-none : (os : List (Option (K × X))) → entries_of R (first zero os) ≡ []
  first-none [] = refl
  first-none (o ∷ os) = first-none os

  -- one more that has an entry
  pub first-more : IsTotalOrder R → CmpEqualImpliesEq R → (n : ℕ) (os : List (Option (K × X))) (e : K × X) → IsDistinctIn R os → get_or os n None ≡ Some e
      → entries_of R (first (suc n) os) ≡ insert_entry R (entries_of R (first n os)) e.0 e.1
  first-more total exact n os e distinct is =
      ap (entries_of R) (first-set n os ∙ ap (set (first n os) n) is) ∙ entries-insert R total exact e.0 e.1 (first n os) n (record {
        within = subst (λ m. n < m) (sym (length-first n os)) (get_within os n e is);
        only = λ j d there same. sym (distinct n j e d is (first-get n j os d there) same);
        no_other = λ d there. absurd (none_some (sym (not-yet n os) ∙ there));
      })
