-- Which records are purged, by the greatest of their stamps.
use Rattle.std.proofs.Common.{◌≡◌, ℕ, ◌<◌, ◌≤◌, List, [], ◌∷◌, refl, arith, ap, sym, ◌∙◌, Bool, true, false, cond, not, ◌&&◌, ◌||◌, filter, Option, Some, None, unwrap_or, max, nat_lt, fold, count_by, subst, ◌⊎◌, inl, inr}
use Rattle.std.specs.List.{AllByRecursion}
use Rattle.std.proofs.lemmas.Bool.{false≢true}
use Rattle.std.proofs.lemmas.List.Sums.{sum_by-cons}
use Rattle.std.proofs.lemmas.Bool.Decides.{nat_tests}

lt-monotone : (s a b : ℕ) → a ≤ b → cond (nat_lt s a) 1 0 ≤ cond (nat_lt s b) 1 0
lt-monotone s a b h = grind (arith, nat_tests)

one-monotone : (t : Bool) (s a b : ℕ) → a ≤ b → cond (not t && nat_lt s a) 1 0 ≤ cond (not t && nat_lt s b) 1 0
one-monotone true s a b h = omega arith
one-monotone false s a b h = lt-monotone s a b h

below : (r a b n : ℕ) → a ≤ b → nat_lt b n ≡ true → nat_lt a n ≡ true
below r a b n h l = grind (arith, nat_tests)

lt-at : (a b : ℕ) → a ≤ b → nat_lt b a ≡ false
lt-at a b h = grind (arith, nat_tests)

lt-or-le : (a b : ℕ) → nat_lt a b ≡ false → b ≤ a
lt-or-le a b h = grind (arith, nat_tests)

lt-from : (a b : ℕ) → nat_lt a b ≡ true → a < b
lt-from a b h = grind (arith, nat_tests)

pick-some : (l s t : ℕ) (b : Bool) → nat_lt s l ≡ b → max l s ≡ t → (Some l ≡ Some t) ⊎ (t ≤ s)
pick-some l s t true is h = let lt : s < l = lt-from s l is in let e : l ≡ t = omega arith in inl (ap Some e)
pick-some l s t false is h = let le : l ≤ s = lt-or-le s l is in inr (omega arith)

pick : (limit : Option ℕ) (s t : ℕ) → Some (max (unwrap_or limit 0) s) ≡ Some t → (limit ≡ Some t) ⊎ (t ≤ s)
pick None s t h = let e : max 0 s ≡ t = cc in inr (omega arith)
pick (Some l) s t h = pick-some l s t _ refl (cc)

module _ {E : Type 0} where
  pub filter-same : (p q : E → Bool) → (es : List E) → AllByRecursion (λ e. p e ≡ q e) es → filter p es ≡ filter q es
  filter-same p q [] h = refl
  filter-same p q (e ∷ es) h = ap (λ b. cond b (e ∷ filter p es) (filter p es)) h.0 ∙ ap (λ fs. cond (q e) (e ∷ fs) fs) (filter-same p q es h.1)

  filter-all : (p : E → Bool) → (es : List E) → AllByRecursion (λ e. p e ≡ true) es → filter p es ≡ es
  filter-all p [] h = refl
  filter-all p (e ∷ es) h = ap (λ b. cond b (e ∷ filter p es) (filter p es)) h.0 ∙ ap (λ fs. e ∷ fs) (filter-all p es h.1)

  count-monotone : (t : E → Bool) (stamp : E → ℕ) (es : List E) (a b : ℕ) → a ≤ b → count_by (λ o. not (t o) && nat_lt (stamp o) a) es ≤ count_by (λ o. not (t o) && nat_lt (stamp o) b) es
  count-monotone t stamp [] a b h = omega arith
  count-monotone t stamp (e ∷ es) a b h =
      omega (arith, count-monotone t stamp es a b h, one-monotone (t e) (stamp e) a b h, sum_by-cons (λ o. cond (not (t o) && nat_lt (stamp o) a) 1 0) e es, sum_by-cons (λ o. cond (not (t o) && nat_lt (stamp o) b) 1 0) e es)

  -- the greatest stamp of those that pass, from a limit on
  abbrev pub limit_from : (E → Bool) → (E → ℕ) → Option ℕ → List E → Option ℕ
  limit_from p stamp limit es = fold (λ limit e. cond (p e) (Some (max (unwrap_or limit 0) (stamp e))) limit) limit es

  -- the limit is at least each stamp of those that pass
  above : (p : E → Bool) (stamp : E → ℕ) (es : List E) (limit : Option ℕ) (t : ℕ) → limit_from p stamp limit es ≡ Some t → (unwrap_or limit 0 ≤ t) × AllByRecursion (λ e. p e ≡ true → stamp e ≤ t) es
  above p stamp [] limit t h = (subst (λ o. unwrap_or o 0 ≤ t) (sym h) (omega arith), tt)
  above p stamp (e ∷ es) limit t h =
      elim (p e) as (λ b. p e ≡ b → limit_from p stamp (cond b (Some (max (unwrap_or limit 0) (stamp e))) limit) es ≡ Some t → (unwrap_or limit 0 ≤ t) × AllByRecursion (λ e. p e ≡ true → stamp e ≤ t) (e ∷ es)) [
        | true ↦ λ is g. let rest = above p stamp es (Some (max (unwrap_or limit 0) (stamp e))) t g in (omega (arith, rest.0), (λ _. omega (arith, rest.0), rest.1))
        | false ↦ λ is g. let rest = above p stamp es limit t g in (rest.0, (λ (h : p e ≡ true). absurd (false≢true (sym is ∙ h)), rest.1))
      ] refl h

  -- it is the stamp of one that passes, unless it was there before
  hit : (p : E → Bool) (stamp : E → ℕ) (es : List E) (limit : Option ℕ) (t : ℕ) → limit_from p stamp limit es ≡ Some t → (limit ≡ Some t) ⊎ ((e : E) × (p e ≡ true) × (t ≤ stamp e))
  hit p stamp [] limit t h = inl h
  hit p stamp (e ∷ es) limit t h =
      elim (p e) as (λ b. p e ≡ b → limit_from p stamp (cond b (Some (max (unwrap_or limit 0) (stamp e))) limit) es ≡ Some t → (limit ≡ Some t) ⊎ ((e : E) × (p e ≡ true) × (t ≤ stamp e))) [
        | true ↦ λ is g. elim (hit p stamp es (Some (max (unwrap_or limit 0) (stamp e))) t g) [ inl same ↦ elim (pick limit (stamp e) t same) [ inl before ↦ inl before | inr here ↦ inr (e, is, here) ] | inr found ↦ inr found ]
        | false ↦ λ is g. hit p stamp es limit t g
      ] refl h

  -- without those that are no older than the limit
  module _ (t : E → Bool) (stamp : E → ℕ) (es : List E) (purge : ℕ) where
    abbrev pub rank : ℕ → ℕ
    rank s = count_by (λ o. not (t o) && nat_lt (stamp o) s) es

    abbrev pub goes : E → Bool
    goes e = not (t e) && nat_lt (rank (stamp e)) purge

    untracked : (e : E) → goes e ≡ true → t e ≡ false
    untracked e h = elim (t e) as (λ b. not b && nat_lt (rank (stamp e)) purge ≡ true → b ≡ false) [ true ↦ λ h. absurd (false≢true h) | false ↦ λ _. refl ] h

    ranked : (e : E) → goes e ≡ true → nat_lt (rank (stamp e)) purge ≡ true
    ranked e h = elim (t e) as (λ b. not b && nat_lt (rank (stamp e)) purge ≡ true → nat_lt (rank (stamp e)) purge ≡ true) [ true ↦ λ h. absurd (false≢true h) | false ↦ λ h. h ] h

    at_limit : (s : ℕ) (first : E) → goes first ≡ true → s ≤ stamp first → (e : E) → (goes e ≡ true → stamp e ≤ s) → not (goes e) ≡ t e || nat_lt s (stamp e)
    at_limit s first gone high e low =
        elim (t e) as (λ b. t e ≡ b → not (not b && nat_lt (rank (stamp e)) purge) ≡ b || nat_lt s (stamp e)) [
          | true ↦ λ is. refl
          | false ↦ λ is. elim (nat_lt s (stamp e)) as (λ c. nat_lt s (stamp e) ≡ c → not (nat_lt (rank (stamp e)) purge) ≡ c) [
            | true ↦ λ above. elim (nat_lt (rank (stamp e)) purge) as (λ d. nat_lt (rank (stamp e)) purge ≡ d → not d ≡ true) [
              | true ↦ λ in_rank. absurd (omega (arith, lt-from s (stamp e) above, low (ap (λ b. not b && nat_lt (rank (stamp e)) purge) is ∙ in_rank)))
              | false ↦ λ _. refl
            ] refl
            | false ↦ λ under. ap not (below 0 (rank (stamp e)) (rank (stamp first)) purge (count-monotone t stamp es (stamp e) (stamp first) (omega (arith, lt-or-le s (stamp e) under))) (ranked first gone))
          ] refl
        ] refl

    all_at_limit : (s : ℕ) (first : E) → goes first ≡ true → s ≤ stamp first → (xs : List E) → AllByRecursion (λ e. goes e ≡ true → stamp e ≤ s) xs → AllByRecursion (λ e. not (goes e) ≡ t e || nat_lt s (stamp e)) xs
    all_at_limit s first gone high [] low = tt
    all_at_limit s first gone high (e ∷ xs) low = (at_limit s first gone high e low.0, all_at_limit s first gone high xs low.1)

    pub filter-limit : (s : ℕ) → limit_from goes stamp None es ≡ Some s → filter (λ e. not (goes e)) es ≡ filter (λ e. t e || nat_lt s (stamp e)) es
    filter-limit s h = elim (hit goes stamp es None s h) [
      | inl none ↦ cc
      | inr found ↦ filter-same _ _ es (all_at_limit s found.0 found.1 found.2 es (above goes stamp es None s h).1)
    ]

    no_limit : (xs : List E) (limit : Option ℕ) → limit_from goes stamp limit xs ≡ None → (limit ≡ None) × AllByRecursion (λ e. not (goes e) ≡ true) xs
    no_limit [] limit h = (h, tt)
    no_limit (e ∷ xs) limit h =
        elim (goes e) as (λ b. goes e ≡ b → limit_from goes stamp (cond b (Some (max (unwrap_or limit 0) (stamp e))) limit) xs ≡ None → (limit ≡ None) × AllByRecursion (λ e. not (goes e) ≡ true) (e ∷ xs)) [
          | true ↦ λ is g. let none = (no_limit xs (Some (max (unwrap_or limit 0) (stamp e))) g).0 in cc
          | false ↦ λ is g. let rest = no_limit xs limit g in (rest.0, (ap not is, rest.1))
        ] refl h

    pub filter-no_limit : limit_from goes stamp None es ≡ None → filter (λ e. not (goes e)) es ≡ es
    filter-no_limit h = filter-all (λ e. not (goes e)) es (no_limit es None h).1
