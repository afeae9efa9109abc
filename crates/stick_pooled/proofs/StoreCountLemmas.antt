-- How many entries slots mean, where a new one comes, and what one removal leaves of a filter.
use Rattle.std.proofs.Common.{◌≡◌, ℕ, zero, suc, ◌+◌, refl, sym, ◌∙◌, ap, subst, arith, List, [], ◌∷◌, ◌++◌, length, filter, get_or, Bool, false, cond, not, Option, Some, None, is_some, count_by}
use Rattle.std.specs.BTreeMap.{insert_entry, is_at}
use Rattle.std.specs.Cmp.{IsTotalOrder}
use Rattle.std.proofs.lemmas.Map.Lookups.{CmpEqualImpliesEq}
use Rattle.std.specs.List.{AllByRecursion}
use Rattle.std.specs.List.Sorted.{IsStrictlySortedBy}
use Rattle.std.specs.Map.{keys_of, lookup}
use Rattle.std.specs.Option.{option_map_or}
use Rattle.std.specs.Ordering.{is_eq, match_ordering}
use Rattle.std.specs.declared.cmp.Ordering.{Ordering}
use Rattle.std.specs.declared.cmp.Ordering.TheVariants.{Less, Equal, Greater}
use Rattle.std.proofs.lemmas.Bool.{false≢true}
use Rattle.std.proofs.lemmas.List.Sums.{sum_by-cons}
use Rattle.stick_model.proofs.EntryLemmas.{all-keys-insert}
use Rattle.stick_pooled.specs.Slots.{entries_of, found_in, IsDistinctIn}
use Rattle.stick_pooled.proofs.SlotLemmas.{absent, lookup-entries, filter-without}

none_some : {X : Type 0} {x : X} → None ≡ Some x → ⊥
none_some e = cc

module _ {K X : Type 0} (R : K → K → Ordering) where
  -- an insert of a key that isn't there is one entry more
  pub length-insert-new : (k : K) (v : X) (es : List (K × X)) → lookup (is_at (R k)) es ≡ None → length (insert_entry R es k v) ≡ length es + 1
  length-insert-new k v [] none = refl
  length-insert-new k v (e ∷ es) none = go (length-insert-new k v es) (R k e.0) none
    where
      go : (lookup (is_at (R k)) es ≡ None → length (insert_entry R es k v) ≡ length es + 1) → (o : Ordering) → cond (is_eq o) (Some e.1) (lookup (is_at (R k)) es) ≡ None → length (match_ordering o ((k, v) ∷ e ∷ es) ((e.0, v) ∷ es) (e ∷ insert_entry R es k v)) ≡ length (e ∷ es) + 1
      go more Less none = omega arith
      go more Equal none = absurd (none_some (sym none))
      go more Greater none = let rest = more none in omega (arith, rest)

  pub count-insert-new : (p : K × X → Bool) (k : K) (v : X) (es : List (K × X)) → lookup (is_at (R k)) es ≡ None → count_by p (insert_entry R es k v) ≡ cond (p (k, v)) 1 0 + count_by p es
  count-insert-new p k v [] none = sum_by-cons (λ (e : K × X). cond (p e) 1 0) (k, v) []
  count-insert-new p k v (e ∷ es) none = go (count-insert-new p k v es) (R k e.0) none
    where
      go : (lookup (is_at (R k)) es ≡ None → count_by p (insert_entry R es k v) ≡ cond (p (k, v)) 1 0 + count_by p es) → (o : Ordering) → cond (is_eq o) (Some e.1) (lookup (is_at (R k)) es) ≡ None → count_by p (match_ordering o ((k, v) ∷ e ∷ es) ((e.0, v) ∷ es) (e ∷ insert_entry R es k v)) ≡ cond (p (k, v)) 1 0 + count_by p (e ∷ es)
      go more Less none = sum_by-cons (λ (e : K × X). cond (p e) 1 0) (k, v) (e ∷ es)
      go more Equal none = absurd (none_some (sym none))
      go more Greater none =
          let rest = more none in
          omega (arith, rest, sum_by-cons (λ (e : K × X). cond (p e) 1 0) e (insert_entry R es k v), sum_by-cons (λ (e : K × X). cond (p e) 1 0) e es)

  -- an insert of a key above all comes last
  pub insert-last : (k : K) (v : X) (es : List (K × X)) → AllByRecursion (λ y. R k y ≡ Greater) (keys_of es) → insert_entry R es k v ≡ es ++ (k, v) ∷ []
  insert-last k v [] h = refl
  insert-last k v (e ∷ es) h = ap (λ o. match_ordering o ((k, v) ∷ e ∷ es) ((e.0, v) ∷ es) (e ∷ insert_entry R es k v)) h.0 ∙ ap (λ rest. e ∷ rest) (insert-last k v es h.1)

  -- what holds of the key of each slot holds of the keys of the entries
  pub all-keys-entries : (P : K → Type 0) (slots : List (Option (K × X))) → ((j : ℕ) (e : K × X) → get_or slots j None ≡ Some e → P e.0) → AllByRecursion P (keys_of (entries_of R slots))
  all-keys-entries P [] h = tt
  all-keys-entries P (None ∷ slots) h = all-keys-entries P slots (λ j. h (suc j))
  all-keys-entries P (Some e ∷ slots) h = all-keys-insert R e.0 e.1 P (entries_of R slots) (all-keys-entries P slots (λ j. h (suc j))) (h 0 e refl)

  distinct-tail : (x : Option (K × X)) (slots : List (Option (K × X))) → IsDistinctIn R (x ∷ slots) → IsDistinctIn R slots
  distinct-tail x slots distinct i j d e one other same = let later : suc i ≡ suc j = distinct (suc i) (suc j) d e one other same in omega (arith, later)

module _ {K X : Type 0} (R : K → K → Ordering) (total : IsTotalOrder R) where
  head-absent : (e : K × X) (slots : List (Option (K × X))) → IsDistinctIn R (Some e ∷ slots) → lookup (is_at (R e.0)) (entries_of R slots) ≡ None
  head-absent e slots distinct =
      lookup-entries R total e.0 slots ∙ absent R total e.0 slots (λ j d there same. let apart : 0 ≡ suc j = distinct 0 (suc j) e d refl there same in omega (arith, apart))

  -- as many entries as slots that have one
  pub length-entries : (slots : List (Option (K × X))) → IsDistinctIn R slots → length (entries_of R slots) ≡ count_by is_some slots
  length-entries [] distinct = refl
  length-entries (None ∷ slots) distinct = length-entries slots (distinct-tail R None slots distinct) ∙ sym (sum_by-cons (λ (o : Option (K × X)). cond (is_some o) 1 0) None slots ∙ zero-add (count_by is_some slots))
    where
      zero-add : (n : ℕ) → 0 + n ≡ n
      zero-add n = omega arith
  length-entries (Some e ∷ slots) distinct =
      let rest = length-entries slots (distinct-tail R (Some e) slots distinct) in
      let more = length-insert-new R e.0 e.1 (entries_of R slots) (head-absent e slots distinct) in
      omega (arith, rest, more, sum_by-cons (λ (o : Option (K × X)). cond (is_some o) 1 0) (Some e) slots)

  -- as many entries pass as slots have one that passes
  pub count-entries : (p : K × X → Bool) (slots : List (Option (K × X))) → IsDistinctIn R slots → count_by p (entries_of R slots) ≡ count_by (λ o. option_map_or p o false) slots
  count-entries p [] distinct = refl
  count-entries p (None ∷ slots) distinct = count-entries p slots (distinct-tail R None slots distinct) ∙ sym (sum_by-cons (λ (o : Option (K × X)). cond (option_map_or p o false) 1 0) None slots ∙ zero-add (count_by (λ (o : Option (K × X)). option_map_or p o false) slots))
    where
      zero-add : (n : ℕ) → 0 + n ≡ n
      zero-add n = omega arith
  count-entries p (Some e ∷ slots) distinct =
      let rest = count-entries p slots (distinct-tail R (Some e) slots distinct) in
      let more = count-insert-new R p e.0 e.1 (entries_of R slots) (head-absent e slots distinct) in
      omega (arith, rest, more, sum_by-cons (λ (o : Option (K × X)). cond (option_map_or p o false) 1 0) (Some e) slots)

  below-none : (k y : K) (is : R k y ≡ Equal) (p : K × X → Bool) (es : List (K × X)) → AllByRecursion (λ z. R y z ≡ Less) (keys_of es) → AllByRecursion (λ e. not (is_eq (R k e.0)) ≡ false → p e ≡ false) es
  below-none k y is p [] h = tt
  below-none k y is p (e ∷ es) h = ((λ no. absurd (false≢true (sym no ∙ ap (λ o. not (is_eq o)) (total.congr k y e.0 is ∙ h.0)))), below-none k y is p es h.1)

  -- of entries in order, without one that fails p, those that pass are the same
  fails-one : (k : K) (v : X) (p : K × X → Bool) (es : List (K × X)) → IsStrictlySortedBy R (keys_of es) → lookup (is_at (R k)) es ≡ Some v → ((key : K) → R k key ≡ Equal → p (key, v) ≡ false)
      → AllByRecursion (λ e. not (is_eq (R k e.0)) ≡ false → p e ≡ false) es
  unfolding IsStrictlySortedBy
  fails-one k v p [] sorted there fails = tt
  fails-one k v p (e ∷ es) sorted there fails = go (fails-one k v p es sorted.1) (R k e.0) refl there
    where
      go : (lookup (is_at (R k)) es ≡ Some v → ((key : K) → R k key ≡ Equal → p (key, v) ≡ false) → AllByRecursion (λ e. not (is_eq (R k e.0)) ≡ false → p e ≡ false) es)
          → (o : Ordering) → R k e.0 ≡ o → cond (is_eq o) (Some e.1) (lookup (is_at (R k)) es) ≡ Some v
          → (not (is_eq (R k e.0)) ≡ false → p e ≡ false) × AllByRecursion (λ e. not (is_eq (R k e.0)) ≡ false → p e ≡ false) es
      go more Less is there = ((λ no. absurd (false≢true (sym no ∙ ap (λ o. not (is_eq o)) is))), more there fails)
      go more Equal is there = let same : e.1 ≡ v = cc in ((λ no. ap (λ w. p (e.0, w)) same ∙ fails e.0 is), below-none k e.0 is p es sorted.0)
      go more Greater is there = ((λ no. absurd (false≢true (sym no ∙ ap (λ o. not (is_eq o)) is))), more there fails)

  pub filter-one : (k : K) (v : X) (p : K × X → Bool) (es : List (K × X)) → IsStrictlySortedBy R (keys_of es) → lookup (is_at (R k)) es ≡ Some v → ((key : K) → R k key ≡ Equal → p (key, v) ≡ false)
      → filter p (filter (λ e. not (is_eq (R k e.0))) es) ≡ filter p es
  filter-one k v p es sorted there fails = filter-without p (λ (e : K × X). not (is_eq (R k e.0))) es (fails-one k v p es sorted there fails)

-- ---- entries from slots
module _ {K X : Type 0} (R : K → K → Ordering) where
  all-insert-pairs : (exact : CmpEqualImpliesEq R) (P : K × X → Type 0) (k : K) (v : X) (es : List (K × X)) → AllByRecursion P es → P (k, v) → AllByRecursion P (insert_entry R es k v)
  all-insert-pairs exact P k v [] h p = (p, tt)
  all-insert-pairs exact P k v (e ∷ es) h p =
      elim (R k e.0) as (λ o. R k e.0 ≡ o → AllByRecursion P (match_ordering o ((k, v) ∷ e ∷ es) ((e.0, v) ∷ es) (e ∷ insert_entry R es k v))) [
        | Less ↦ λ is. (p, h)
        | Equal ↦ λ is. (subst (λ key. P (key, v)) (exact k e.0 is) p, h.1)
        | Greater ↦ λ is. (h.0, all-insert-pairs exact P k v es h.1 p)
      ] refl

  -- what holds of each slot's entry holds of the entries
  pub all-entries : CmpEqualImpliesEq R → (P : K × X → Type 0) (slots : List (Option (K × X))) → ((j : ℕ) (e : K × X) → get_or slots j None ≡ Some e → P e) → AllByRecursion P (entries_of R slots)
  all-entries exact P [] h = tt
  all-entries exact P (None ∷ slots) h = all-entries exact P slots (λ j. h (suc j))
  all-entries exact P (Some e ∷ slots) h = all-insert-pairs exact P e.0 e.1 (entries_of R slots) (all-entries exact P slots (λ j. h (suc j))) (h 0 e refl)

  -- a value that is found is that of a slot
  pub record IsFound (q : K) (slots : List (Option (K × X))) (x : X) : Type 0 where
    pub at : ℕ
    pub key : K
    pub there : get_or slots at None ≡ Some (key, x)
    pub same : R q key ≡ Equal

  pub found-is : (q : K) (slots : List (Option (K × X))) (x : X) → found_in R q slots ≡ Some x → IsFound q slots x
  found-is q [] x is = absurd (none_some is)
  found-is q (None ∷ slots) x is = let f = found-is q slots x is in record { at = suc f.at; key = f.key; there = f.there; same = f.same }
  found-is q (Some d ∷ slots) x is = go (found-is q slots x) (R q d.0) refl is
    where
      go : (found_in R q slots ≡ Some x → IsFound q slots x) → (o : Ordering) → R q d.0 ≡ o → cond (is_eq o) (Some d.1) (found_in R q slots) ≡ Some x → IsFound q (Some d ∷ slots) x
      go more Less same is = let f = more is in record { at = suc f.at; key = f.key; there = f.there; same = f.same }
      go more Greater same is = let f = more is in record { at = suc f.at; key = f.key; there = f.there; same = f.same }
      go more Equal same is = let one : d.1 ≡ x = cc in record { at = 0; key = d.0; there = ap (λ v. Some (d.0, v)) one; same = same }

  -- and a slot's value is found, where no other slot has its key
  pub found-at : IsTotalOrder R → (q k : K) (x : X) (slots : List (Option (K × X))) (at : ℕ) → IsDistinctIn R slots → get_or slots at None ≡ Some (k, x) → R q k ≡ Equal → found_in R q slots ≡ Some x
  found-at total q k x [] at distinct there same = absurd (none_some there)
  found-at total q k x (None ∷ slots) zero distinct there same = absurd (none_some there)
  found-at total q k x (None ∷ slots) (suc at) distinct there same = found-at total q k x slots at (distinct-tail R None slots distinct) there same
  found-at total q k x (Some d ∷ slots) zero distinct there same =
      let one : d ≡ (k, x) = cc in
      ap (λ (e : K × X). cond (is_eq (R q e.0)) (Some e.1) (found_in R q slots)) one ∙ ap (λ o. cond (is_eq o) (Some x) (found_in R q slots)) same
  found-at total q k x (Some d ∷ slots) (suc at) distinct there same = go (found-at total q k x slots at (distinct-tail R (Some d) slots distinct) there same) (R q d.0) refl
    where
      go : found_in R q slots ≡ Some x → (o : Ordering) → R q d.0 ≡ o → cond (is_eq o) (Some d.1) (found_in R q slots) ≡ Some x
      go more Less is = more
      go more Greater is = more
      go more Equal is =
          let both : R d.0 k ≡ Equal = sym (total.congr q d.0 k is) ∙ same in
          let apart : 0 ≡ suc at = distinct 0 (suc at) d (k, x) refl there both in
          absurd (omega (arith, apart))
