-- How each change of the slots keeps them sound.
use Rattle.std.proofs.Common.{◌≡◌, ◌≢◌, ℕ, zero, suc, ◌+◌, ◌-◌, ◌^◌, ◌<◌, ◌≤◌, List, [], ◌∷◌, ◌++◌, length, get_or, set, replicate, Option, Some, None, is_some, IsSome, cond, refl, sym, ap, subst, ◌∙◌, inl, inr, arith, length-set, length-append, true≢false}
use Rattle.std.proofs.Permutation.{which}
use Rattle.std.proofs.lemmas.Bool.{cases_lt}
use Rattle.std.proofs.lemmas.List.{get_or-set_same, get_or-set_other, get_or-replicate, length-replicate}
use Rattle.std.proofs.lemmas.List.Folds.{sum_by-replicate}
use Rattle.std.proofs.lemmas.Option.{get_or_from_slice_get, slice_get-get_or, slice_get_past}
use Rattle.std.specs.List.{slice_get}
use Rattle.entry_pool.specs.declared.Live.{Live}
use Rattle.entry_pool.specs.declared.TheConstants.{FULL}
use Rattle.entry_pool.specs.declared.slot_handle.TheConstants.{NONE}
use Rattle.entry_pool.specs.Slots.{IsFreeChain, IsTold, AreAllFree, IsSound}
use Rattle.entry_pool.proofs.SlotLemmas.{none_some, same_some, get_within, count_set}

-- what is read is within the list
read_within : (links : List ℕ) (i x : ℕ) → slice_get links i ≡ Some x → i < length links
read_within links i x found = elim (cases_lt i (length links)) [ inl lt ↦ lt | inr le ↦ absurd (none_some (sym (slice_get_past links i le) ∙ found)) ]

read_set_same : (links : List ℕ) (i x : ℕ) → i < length links → slice_get (set links i x) i ≡ Some x
read_set_same links i x within =
    slice_get-get_or (set links i x) i 0 (omega (arith, within, length-set links i x)) ∙ ap Some (get_or-set_same links i x 0 within)

read_set_other : (links : List ℕ) (i j x y : ℕ) → j ≢ i → slice_get links j ≡ Some y → slice_get (set links i x) j ≡ Some y
read_set_other links i j x y other found =
    slice_get-get_or (set links i x) j 0 (omega (arith, read_within links j y found, length-set links i x)) ∙ ap Some (get_or-set_other links i j x 0 other ∙ get_or_from_slice_get links j y 0 found)

same_link : (links : List ℕ) (i m n : ℕ) → slice_get links i ≡ Some m → slice_get links i ≡ Some n → m ≡ n
same_link links i m n e f = same_some (sym e ∙ f)

-- a chain ends, so no two chains from one slot differ in length
chain_one : (links : List ℕ) (m n at : ℕ) → length links ≤ 2 ^ 30 → IsFreeChain links m at → IsFreeChain links n at → m ≡ n
chain_one links zero zero at small p q = refl
chain_one links zero (suc n) at small p q = absurd (omega (arith, read_within links at _ q.1, p))
chain_one links (suc m) zero at small p q = absurd (omega (arith, read_within links at _ p.1, q))
chain_one links (suc m) (suc n) at small p q = ap suc (chain_one links m n p.0 small p.2 (subst (IsFreeChain links n) (same_link links at q.0 p.0 q.1 p.1) q.2))

-- a write at a slot that is not on the chain keeps the chain
chain_set : (links : List ℕ) (slot x n from : ℕ) → ((m : ℕ) → m < n → IsFreeChain links (suc m) slot → ⊥) → IsFreeChain links n from → IsFreeChain (set links slot x) n from
chain_set links slot x zero from off p = p
chain_set links slot x (suc n) from off p =
    let other : from ≢ slot = λ same. off n (omega arith) (subst (IsFreeChain links (suc n)) same p) in
    (p.0, read_set_other links slot from x p.0 other p.1, chain_set links slot x n p.0 (λ m below. off m (omega arith)) p.2)

-- what a chain begins with isn't the link of a slot that has a value
first_not_full : (links : List ℕ) (n first : ℕ) → length links ≤ 2 ^ 30 → IsFreeChain links n first → first ≢ FULL
first_not_full links zero first small p full = omega (arith, p, full)
first_not_full links (suc n) first small p full = omega (arith, read_within links first p.0 p.1, full)

on_chain_not_full : (links : List ℕ) (n slot : ℕ) → length links ≤ 2 ^ 30 → IsFreeChain links (suc n) slot → get_or links slot 0 ≢ FULL
on_chain_not_full links n slot small p full = first_not_full links n p.0 small p.2 (sym (get_or_from_slice_get links slot p.0 0 p.1) ∙ full)

-- links that count up
abbrev pub IsCounting : List ℕ → Type 0
IsCounting links = (slot : ℕ) → slot < length links → slice_get links slot ≡ Some (slot + 1)

read_before : (xs ys : List ℕ) (i x : ℕ) → slice_get xs i ≡ Some x → slice_get (xs ++ ys) i ≡ Some x
read_before [] ys i x found = absurd (none_some found)
read_before (z ∷ zs) ys zero x found = found
read_before (z ∷ zs) ys (suc i) x found = read_before zs ys i x found

read_last : (xs : List ℕ) (y : ℕ) → slice_get (xs ++ y ∷ []) (length xs) ≡ Some y
read_last [] y = refl
read_last (x ∷ xs) y = read_last xs y

pub counting_more : (links : List ℕ) (next : ℕ) → IsCounting links → length links + 1 ≡ next → IsCounting (links ++ next ∷ [])
counting_more links next counting is slot within = elim (cases_lt slot (length links)) [
  | inl lt ↦ read_before links (next ∷ []) slot (slot + 1) (counting slot lt)
  | inr le ↦ (
      let at : slot ≡ length links = omega (arith, within, le, length-append links (next ∷ [])) in
      ap (slice_get (links ++ next ∷ [])) at ∙ read_last links next ∙ ap Some (omega (arith, at, is)))
]

pub counting_end : (links : List ℕ) (count : ℕ) → IsCounting links → length links + 1 ≡ count → AreAllFree (links ++ NONE ∷ []) count
counting_end links count counting is = record {
  sized = omega (arith, is, length-append links (NONE ∷ []));
  next = λ slot within. read_before links (NONE ∷ []) slot (slot + 1) (counting slot (omega (arith, within, is)));
  last = ap (slice_get (links ++ NONE ∷ [])) (omega (arith, is)) ∙ read_last links NONE;
}

-- links that were just made
module _ (links : List ℕ) (capacity : ℕ) (all : AreAllFree links capacity) where
  chain_from : (n slot : ℕ) → slot + suc n ≡ capacity → IsFreeChain links (suc n) slot
  chain_from zero slot is = (NONE, ap (slice_get links) (omega (arith, is)) ∙ all.last, refl)
  chain_from (suc n) slot is = (slot + 1, all.next slot (omega (arith, is)), chain_from n (slot + 1) (omega (arith, is)))

  pub chain_all : 0 < capacity → IsFreeChain links capacity 0
  chain_all some = let is : suc (capacity - 1) ≡ capacity = omega (arith, some) in subst (λ k. IsFreeChain links k 0) is (chain_from (capacity - 1) 0 (omega (arith, some)))

  new_not_full : (slot : ℕ) → capacity ≤ 2 ^ 30 → slot < capacity → get_or links slot 0 ≢ FULL
  new_not_full slot small within = on_chain_not_full links (capacity - (slot + 1)) slot (omega (arith, small, all.sized)) (chain_from (capacity - (slot + 1)) slot (omega (arith, within)))

module _ {T : Type 0} where
  not_some : (place : Option (Live T)) → place ≡ None → IsSome place → ⊥
  not_some place none some = true≢false (sym (subst IsSome none some))

  none_unless : (place : Option (Live T)) → (IsSome place → ⊥) → place ≡ None
  none_unless None not = refl
  none_unless (Some live) not = absurd (not refl)

  pub sound_new : (links : List ℕ) (capacity : ℕ) → AreAllFree links capacity → 0 < capacity → capacity ≤ 2 ^ 30 → IsSound {T = T} (replicate capacity None) links capacity 0 0 0
  sound_new links capacity all some small = record {
    small = small;
    sized = length-replicate {A = Option (Live T)} capacity None;
    linked = all.sized;
    told = λ slot within. (
      (λ full. absurd (new_not_full links capacity all slot small within full)),
      (λ live. absurd (not_some _ (get_or-replicate capacity slot None None within) live)),
    );
    counted = sym (sum_by-replicate (λ (o : Option (Live T)). cond (is_some o) 1 0) capacity None ∙ omega arith);
    free = capacity;
    total = omega arith;
    chained = chain_all links capacity all some;
    dated = λ slot live there. absurd (none_at slot live there);
  }
    where
      none_at : (slot : ℕ) (live : Live T) → get_or (replicate {A = Option (Live T)} capacity None) slot None ≡ Some live → ⊥
      none_at slot live there =
          let within : slot < capacity = omega (arith, get_within (replicate {A = Option (Live T)} capacity None) slot live there, length-replicate {A = Option (Live T)} capacity None) in
          none_some (sym (get_or-replicate capacity slot None None within) ∙ there)

  -- what is told stays told, where one slot's place and link are written
  told_set : (places : List (Option (Live T))) (links : List ℕ) (capacity slot link : ℕ) (place : Option (Live T)) → length places ≡ capacity → length links ≡ capacity → slot < capacity
      → ((i : ℕ) → i < capacity → IsTold (get_or links i 0) (get_or places i None)) → IsTold link place
      → (i : ℕ) → i < capacity → IsTold (get_or (set links slot link) i 0) (get_or (set places slot place) i None)
  told_set places links capacity slot link place sized linked within told here i inside = elim (which i slot) [
    | inl same ↦ (
        let there = get_or-set_same links slot link 0 (omega (arith, within, linked)) in
        let what = get_or-set_same places slot place None (omega (arith, within, sized)) in
        subst (λ j. IsTold (get_or (set links slot link) j 0) (get_or (set places slot place) j None)) (sym same) (subst (λ l. IsTold l (get_or (set places slot place) slot None)) (sym there) (subst (IsTold link) (sym what) here)))
    | inr other ↦ (
        subst (λ l. IsTold l (get_or (set places slot place) i None)) (sym (get_or-set_other links slot i link 0 other))
        (subst (IsTold (get_or links i 0)) (sym (get_or-set_other places slot i place None other)) (told i inside)))
  ]

  dated_set : (places : List (Option (Live T))) (slot : ℕ) (place : Option (Live T)) (old new : ℕ) → slot < length places → old ≤ new
      → ((i : ℕ) (live : Live T) → get_or places i None ≡ Some live → live.generation ≤ old) → ((live : Live T) → place ≡ Some live → live.generation ≤ new)
      → (i : ℕ) (live : Live T) → get_or (set places slot place) i None ≡ Some live → live.generation ≤ new
  dated_set places slot place old new within more before at i live found = elim (which i slot) [
    | inl same ↦ at live (sym (get_or-set_same places slot place None within) ∙ ap (λ j. get_or (set places slot place) j None) (sym same) ∙ found)
    | inr other ↦ (let b = before i live (sym (get_or-set_other places slot i place None other) ∙ found) in omega (arith, b, more))
  ]

  module _ (places : List (Option (Live T))) (links : List ℕ) (capacity first count newest : ℕ) (s : IsSound places links capacity first count newest) where
    few_links : length links ≤ 2 ^ 30
    few_links = omega (arith, s.small, s.linked)

    -- the chain is empty where it names no slot: then all have a value
    pub all_full : first ≡ NONE → count ≡ capacity
    all_full none = let ends : s.free ≡ 0 = chain_one links s.free 0 first few_links s.chained none in omega (arith, s.total, ends)

    -- and else it begins with a slot that has none
    pub record IsHead : Type 0 where
      pub within : first < capacity
      pub nothing : get_or places first None ≡ None
      pub room : count < capacity

    pub head : first ≢ NONE → IsHead
    head some = by_free s.free s.total s.chained
      where
        by_free : (n : ℕ) → count + n ≡ capacity → IsFreeChain links n first → IsHead
        by_free zero total p = absurd (some p)
        by_free (suc n) total p =
            let within : first < capacity = omega (arith, read_within links first p.0 p.1, s.linked) in
            record {
              within = within;
              nothing = none_unless (get_or places first None) (λ live. on_chain_not_full links n first few_links p ((s.told first within).1 live));
              room = omega (arith, total);
            }

    -- the first slot of the chain takes a value
    pub sound_fill : (live : Live T) (next : ℕ) → first ≢ NONE → slice_get links first ≡ Some next → newest < live.generation → IsSound (set places first (Some live)) (set links first FULL) capacity next (count + 1) live.generation
    sound_fill live next some link newer = by_free s.free s.total s.chained
      where
        by_free : (n : ℕ) → count + n ≡ capacity → IsFreeChain links n first → IsSound (set places first (Some live)) (set links first FULL) capacity next (count + 1) live.generation
        by_free zero total p = absurd (some p)
        by_free (suc n) total p =
            let h = head some in let within = h.within in
            let off : (m : ℕ) → m < n → IsFreeChain links (suc m) first → ⊥ = λ m lt q. omega (arith, lt, chain_one links (suc m) (suc n) first few_links q p) in
            let counts = count_set places first (Some live) (omega (arith, within, s.sized)) in
            let before : ◌≡◌ {A = ℕ} (cond (is_some (get_or places first None)) 1 0) 0 = ap (λ (o : Option (Live T)). cond (is_some o) 1 0) h.nothing in
            record {
              small = s.small;
              sized = length-set places first (Some live) ∙ s.sized;
              linked = length-set links first FULL ∙ s.linked;
              told = told_set places links capacity first FULL (Some live) s.sized s.linked within s.told ((λ _. refl), (λ _. refl));
              counted = omega (arith, s.counted, counts, before);
              free = n;
              total = omega (arith, total);
              chained = chain_set links first FULL n next off (subst (IsFreeChain links n) (same_link links first p.0 next p.1 link) p.2);
              dated = dated_set places first (Some live) newest live.generation (omega (arith, within, s.sized)) (omega (arith, newer)) s.dated (λ l is. omega (arith, ap (λ (x : Live T). x.generation) (same_some is)));
            }

    -- a slot that has a value is one of those counted
    pub some_live : (slot : ℕ) (live : Live T) → get_or places slot None ≡ Some live → 1 ≤ count
    some_live slot live there =
        let counts = count_set places slot None (get_within places slot live there) in
        let before : ◌≡◌ {A = ℕ} (cond (is_some (get_or places slot None)) 1 0) 1 = ap (λ (o : Option (Live T)). cond (is_some o) 1 0) there in
        omega (arith, s.counted, counts, before)

    pub live_within : (slot : ℕ) (live : Live T) → get_or places slot None ≡ Some live → slot < capacity
    live_within slot live there = omega (arith, get_within places slot live there, s.sized)

    -- a slot loses its value, and heads the chain
    pub sound_vacate : (slot : ℕ) (live : Live T) → get_or places slot None ≡ Some live → IsSound (set places slot None) (set links slot first) capacity slot (count - 1) newest
    sound_vacate slot live there =
        let within = live_within slot live there in
        let full : get_or links slot 0 ≡ FULL = (s.told slot within).1 (ap is_some there) in
        let counts = count_set places slot None (get_within places slot live there) in
        let before : ◌≡◌ {A = ℕ} (cond (is_some (get_or places slot None)) 1 0) 1 = ap (λ (o : Option (Live T)). cond (is_some o) 1 0) there in
        record {
          small = s.small;
          sized = length-set {A = Option (Live T)} places slot None ∙ s.sized;
          linked = length-set links slot first ∙ s.linked;
          told = told_set places links capacity slot first None s.sized s.linked within s.told ((λ is. absurd (first_not_full links s.free first few_links s.chained is)), (λ live. absurd (true≢false (sym live))));
          counted = omega (arith, s.counted, counts, before);
          free = suc s.free;
          total = omega (arith, s.total, s.counted, counts, before);
          chained = (first, read_set_same links slot first (omega (arith, within, s.linked)), chain_set links slot first s.free first (λ m _ p. on_chain_not_full links m slot few_links p full) s.chained);
          dated = dated_set places slot None newest newest (get_within places slot live there) (omega arith) s.dated (λ l is. absurd (none_some is));
        }

    -- a value is replaced, under the same generation
    pub sound_rewrite : (slot : ℕ) (old new : Live T) → get_or places slot None ≡ Some old → new.generation ≡ old.generation → IsSound (set places slot (Some new)) links capacity first count newest
    sound_rewrite slot old new there same =
        let within = get_within places slot old there in
        let inside = live_within slot old there in
        let counts = count_set places slot (Some new) within in
        let before : ◌≡◌ {A = ℕ} (cond (is_some (get_or places slot None)) 1 0) 1 = ap (λ (o : Option (Live T)). cond (is_some o) 1 0) there in
        let full : get_or links slot 0 ≡ FULL = (s.told slot inside).1 (ap is_some there) in
        record {
          small = s.small;
          sized = length-set places slot (Some new) ∙ s.sized;
          linked = s.linked;
          told = λ i below. elim (which i slot) [
            | inl is ↦ (
                let what : get_or (set places slot (Some new)) i None ≡ Some new = ap (λ j. get_or (set places slot (Some new)) j None) is ∙ get_or-set_same places slot (Some new) None within in
                ((λ _. ap is_some what), (λ _. ap (λ j. get_or links j 0) is ∙ full)))
            | inr other ↦ subst (IsTold (get_or links i 0)) (sym (get_or-set_other places slot i (Some new) None other)) (s.told i below)
          ];
          counted = omega (arith, s.counted, counts, before);
          free = s.free;
          total = s.total;
          chained = s.chained;
          dated = dated_set places slot (Some new) newest newest within (omega arith) s.dated (λ l is. omega (arith, ap (λ (x : Live T). x.generation) (same_some is), same, s.dated slot old there));
        }
