-- What a write of one slot does to the entries that the slots mean.
use Rattle.std.proofs.Common.{◌≡◌, ℕ, zero, suc, refl, sym, ◌∙◌, ap, subst, arith, List, [], ◌∷◌, filter, get_or, set, Bool, true, false, cond, not, Option, Some, None, is_some, unwrap_or, ◌⊎◌, inl, inr}
use Rattle.std.specs.BTreeMap.{insert_entry, is_at}
use Rattle.std.specs.Cmp.{IsTotalOrder, alike_right, tied_itself}
use Rattle.std.specs.List.{AllByRecursion}
use Rattle.std.specs.List.Sorted.{IsStrictlySortedBy}
use Rattle.std.specs.Map.{keys_of, lookup, set_value}
use Rattle.std.specs.Option.{option_map}
use Rattle.std.specs.Ordering.{is_eq, ordering_reverse}
use Rattle.std.specs.declared.cmp.Ordering.{Ordering}
use Rattle.std.specs.declared.cmp.Ordering.TheVariants.{Less, Equal, Greater}
use Rattle.std.proofs.lemmas.Map.Lookups.{CmpEqualImpliesEq}
use Rattle.std.proofs.lemmas.Bool.{false≢true}
use Rattle.std.proofs.lemmas.Map.{keys-set_value}
use Rattle.std.proofs.lemmas.Map.Entries.{lookup-filter-keys}
use Rattle.stick_pooled.specs.Slots.{entries_of, found_in, IsAlone, IsDistinctIn}
use Rattle.stick_model.proofs.EntryLemmas.{sorted-insert, lookup-insert, sorted-filter, lookup-set}

Equal-from : (o : Ordering) → is_eq o ≡ true → o ≡ Equal
Equal-from Less h = cc
Equal-from Equal h = refl
Equal-from Greater h = cc

module _ {K : Type 0} (R : K → K → Ordering) (total : IsTotalOrder R) where
  pub above : (k y : K) → R k y ≡ Less → (ys : List K) → AllByRecursion (λ z. R y z ≡ Less) ys → AllByRecursion (λ z. R k z ≡ Less) ys
  above k y is [] h = tt
  above k y is (z ∷ zs) h = (total.trans k y z is h.0, above k y is zs h.1)

  pub level : (q k : K) → R q k ≡ Equal → (ys : List K) → AllByRecursion (λ z. R k z ≡ Less) ys → AllByRecursion (λ z. R q z ≡ Less) ys
  level q k is [] h = tt
  level q k is (z ∷ zs) h = (total.congr q k z is ∙ h.0, level q k is zs h.1)

module _ {K X : Type 0} (R : K → K → Ordering) (total : IsTotalOrder R) where
  pub sorted-entries : (slots : List (Option (K × X))) → IsStrictlySortedBy R (keys_of (entries_of R slots))
  unfolding IsStrictlySortedBy
  sorted-entries [] = tt
  sorted-entries (None ∷ slots) = sorted-entries slots
  sorted-entries (Some e ∷ slots) = sorted-insert R e.0 e.1 total (entries_of R slots) (sorted-entries slots)

  pub lookup-entries : (q : K) (slots : List (Option (K × X))) → lookup (is_at (R q)) (entries_of R slots) ≡ found_in R q slots
  lookup-entries q [] = refl
  lookup-entries q (None ∷ slots) = lookup-entries q slots
  lookup-entries q (Some e ∷ slots) = lookup-insert R e.0 e.1 total q (entries_of R slots) ∙ ap (λ o. cond (is_eq (R q e.0)) (Some e.1) o) (lookup-entries q slots)

  swapped : (q k : K) (d : K × X) (o : Option X) (r : Option X) → (R k d.0 ≡ Equal → ⊥) → cond (is_eq (R q d.0)) (Some d.1) (cond (is_eq (R q k)) o r) ≡ cond (is_eq (R q k)) o (cond (is_eq (R q d.0)) (Some d.1) r)
  swapped q k d o r apart =
      go (R q k) (R q d.0) (λ one other. apart (sym (total.congr q k d.0 one) ∙ other))
    where
      go : (a b : Ordering) → (a ≡ Equal → b ≡ Equal → ⊥) → cond (is_eq b) (Some d.1) (cond (is_eq a) o r) ≡ cond (is_eq a) o (cond (is_eq b) (Some d.1) r)
      go Less b no_both = refl
      go Greater b no_both = refl
      go Equal Less no_both = refl
      go Equal Greater no_both = refl
      go Equal Equal no_both = absurd (no_both refl refl)

  pub absent : (q : K) (slots : List (Option (K × X))) → ((j : ℕ) (e : K × X) → get_or slots j None ≡ Some e → R q e.0 ≡ Equal → ⊥) → found_in R q slots ≡ None
  absent q [] nowhere = refl
  absent q (None ∷ slots) nowhere = absent q slots (λ j. nowhere (suc j))
  absent q (Some d ∷ slots) nowhere =
      elim (R q d.0) as (λ o. R q d.0 ≡ o → cond (is_eq o) (Some d.1) (found_in R q slots) ≡ None) [
        | Less ↦ λ _. absent q slots (λ j. nowhere (suc j))
        | Equal ↦ λ is. absurd (nowhere 0 d refl is)
        | Greater ↦ λ _. absent q slots (λ j. nowhere (suc j))
      ] refl

  at_head : (q k : K) (o : Option X) (slots : List (Option (K × X))) → (R q k ≡ Equal → found_in R q slots ≡ None) → found_in R q (option_map (λ v. (k, v)) o ∷ slots) ≡ cond (is_eq (R q k)) o (found_in R q slots)
  at_head q k (Some v) slots none = refl
  at_head q k None slots none =
      elim (R q k) as (λ r. R q k ≡ r → found_in R q slots ≡ cond (is_eq r) None (found_in R q slots)) [ Less ↦ λ _. refl | Equal ↦ none | Greater ↦ λ _. refl ] refl

  later : (x : Option (K × X)) (slots : List (Option (K × X))) (at : ℕ) (k : K) → IsAlone R (x ∷ slots) (suc at) k → IsAlone R slots at k
  later x slots at k alone = record {
    within = omega (arith, alone.within);
    only = λ j e here same. let there : suc j ≡ suc at = alone.only (suc j) e here same in omega (arith, there);
    no_other = alone.no_other;
  }

  -- with another value for the slot's key, or none
  pub found-set : (q k : K) (o : Option X) (slots : List (Option (K × X))) (at : ℕ) → IsAlone R slots at k
      → found_in R q (set slots at (option_map (λ v. (k, v)) o)) ≡ cond (is_eq (R q k)) o (found_in R q slots)
  found-set q k o [] at alone = absurd (omega (arith, alone.within))
  found-set q k o (x ∷ slots) zero alone = at_head q k o slots none ∙ nested x alone.no_other
    where
      none : R q k ≡ Equal → found_in R q slots ≡ None
      none one = absent q slots (λ j e here same. let there : suc j ≡ 0 = alone.only (suc j) e here (sym (total.congr q k e.0 one) ∙ same) in omega (arith, there))

      both : (a b : Bool) → a ≡ b → (w : X) (r : Option X) → cond a o r ≡ cond a o (cond b (Some w) r)
      both true b same w r = refl
      both false b same w r = ap (λ c. cond c (Some w) r) same

      nested : (x : Option (K × X)) → ((e : K × X) → x ≡ Some e → R k e.0 ≡ Equal) → cond (is_eq (R q k)) o (found_in R q slots) ≡ cond (is_eq (R q k)) o (found_in R q (x ∷ slots))
      nested None h = refl
      nested (Some d) h = both (is_eq (R q k)) (is_eq (R q d.0)) (ap is_eq (alike_right total k d.0 q (h d refl))) d.1 (found_in R q slots)
  found-set q k o (None ∷ slots) (suc at) alone = found-set q k o slots at (later None slots at k alone)
  found-set q k o (Some d ∷ slots) (suc at) alone =
      ap (λ r. cond (is_eq (R q d.0)) (Some d.1) r) (found-set q k o slots at (later (Some d) slots at k alone))
      ∙ swapped q k d o (found_in R q slots) (λ same. let there : 0 ≡ suc at = alone.only 0 d refl same in omega (arith, there))

  pub missing : (q : K) (es : List (K × X)) → AllByRecursion (λ y. R q y ≡ Less) (keys_of es) → lookup (is_at (R q)) es ≡ None
  missing q [] h = refl
  missing q (e ∷ es) h = ap (λ o. cond (is_eq o) (Some e.1) (lookup (is_at (R q)) es)) h.0 ∙ missing q es h.1

  at_first : (e : K × X) (es : List (K × X)) → lookup (is_at (R e.0)) (e ∷ es) ≡ Some e.1
  at_first e es = ap (λ o. cond (is_eq o) (Some e.1) (lookup (is_at (R e.0)) es)) (tied_itself total e.0)

  none-some : (x : X) → ◌≡◌ {A = Option X} None (Some x) → ⊥
  none-some x same = false≢true (ap is_some same)

  present : (q k : K) (w : X) (slots : List (Option (K × X))) (at : ℕ) → get_or slots at None ≡ Some (k, w) → R q k ≡ Equal → is_some (found_in R q slots) ≡ true
  present q k w [] at there same = absurd (false≢true (ap is_some there))
  present q k w (None ∷ slots) zero there same = absurd (false≢true (ap is_some there))
  present q k w (Some d ∷ slots) zero there same =
      ap (λ e. is_some (cond (is_eq (R q (unwrap_or e d).0)) (Some d.1) (found_in R q slots))) there ∙ ap (λ o. is_some (cond (is_eq o) (Some d.1) (found_in R q slots))) same
  present q k w (None ∷ slots) (suc at) there same = present q k w slots at there same
  present q k w (Some d ∷ slots) (suc at) there same =
      elim (is_eq (R q d.0)) as (λ b. is_some (cond b (Some d.1) (found_in R q slots)) ≡ true) [ true ↦ refl | false ↦ present q k w slots at there same ]

  -- what a slot has after a write: at the slot the new entry, elsewhere what it had
  read-set : (x : K × X) (slots : List (Option (K × X))) (at i : ℕ) (d : K × X) → get_or (set slots at (Some x)) i None ≡ Some d → ((i ≡ at) × (d ≡ x)) ⊎ (get_or slots i None ≡ Some d)
  read-set x [] at i d here = absurd (false≢true (ap is_some here))
  read-set x (y ∷ slots) zero zero d here = inl (refl, ap (λ o. unwrap_or o d) (sym here))
  read-set x (y ∷ slots) zero (suc i) d here = inr here
  read-set x (y ∷ slots) (suc at) zero d here = inr here
  read-set x (y ∷ slots) (suc at) (suc i) d here = later_or (read-set x slots at i d here)
    where
      later_or : ((i ≡ at) × (d ≡ x)) ⊎ (get_or slots i None ≡ Some d) → ((suc i ≡ suc at) × (d ≡ x)) ⊎ (get_or slots i None ≡ Some d)
      later_or (inl l) = inl (ap suc l.0, l.1)
      later_or (inr r) = inr r

  -- a write keeps all keys distinct
  pub distinct-set : (k : K) (v : X) (slots : List (Option (K × X))) (at : ℕ) → IsDistinctIn R slots → IsAlone R slots at k → IsDistinctIn R (set slots at (Some (k, v)))
  distinct-set k v slots at distinct alone i j d e one other same = go (read-set (k, v) slots at i d one) (read-set (k, v) slots at j e other)
    where
      go : ((i ≡ at) × (d ≡ (k, v))) ⊎ (get_or slots i None ≡ Some d) → ((j ≡ at) × (e ≡ (k, v))) ⊎ (get_or slots j None ≡ Some e) → i ≡ j
      go (inl l) (inl m) = l.0 ∙ sym m.0
      go (inl l) (inr r) = l.0 ∙ sym (alone.only j e r (ap (λ (p : K × X). R p.0 e.0) (sym l.1) ∙ same))
      go (inr r) (inl m) = alone.only i d r (total.antisymm k d.0 ∙ ap ordering_reverse (ap (λ (p : K × X). R d.0 p.0) (sym m.1) ∙ same)) ∙ sym m.0
      go (inr r) (inr t) = distinct i j d e r t same

  module _ (exact : CmpEqualImpliesEq R) where
    -- two lists in the order of their keys are the same where each look-up finds the same
    pub same-entries : (es fs : List (K × X)) → IsStrictlySortedBy R (keys_of es) → IsStrictlySortedBy R (keys_of fs) → ((q : K) → lookup (is_at (R q)) es ≡ lookup (is_at (R q)) fs) → es ≡ fs
    unfolding IsStrictlySortedBy
    same-entries [] [] s t h = refl
    same-entries [] (f ∷ fs) s t h = absurd (none-some f.1 (h f.0 ∙ at_first f fs))
    same-entries (e ∷ es) [] s t h = absurd (none-some e.1 (sym (h e.0) ∙ at_first e es))
    same-entries (e ∷ es) (f ∷ fs) s t h =
        elim (R e.0 f.0) as (λ o. R e.0 f.0 ≡ o → ◌≡◌ {A = List (K × X)} (e ∷ es) (f ∷ fs)) [
          | Less ↦ λ is. absurd (none-some e.1 (sym (missing e.0 (f ∷ fs) (is, above R total e.0 f.0 is (keys_of fs) t.0)) ∙ sym (h e.0) ∙ at_first e es))
          | Equal ↦ λ is. joined (exact e.0 f.0 is) is (λ keys. same-entries es fs s.1 t.1 (tails keys))
          | Greater ↦ λ is. let less : R f.0 e.0 ≡ Less = total.antisymm f.0 e.0 ∙ ap ordering_reverse is in
              absurd (none-some f.1 (sym (missing f.0 (e ∷ es) (less, above R total f.0 e.0 less (keys_of es) s.0)) ∙ h f.0 ∙ at_first f fs))
        ] refl
      where
        tails : e.0 ≡ f.0 → (q : K) → lookup (is_at (R q)) es ≡ lookup (is_at (R q)) fs
        tails keys q =
            elim (R q e.0) as (λ o. R q e.0 ≡ o → cond (is_eq o) (Some e.1) (lookup (is_at (R q)) es) ≡ lookup (is_at (R q)) (f ∷ fs) → lookup (is_at (R q)) es ≡ lookup (is_at (R q)) fs) [
              | Less ↦ λ is found. found ∙ ap (λ o. cond (is_eq o) (Some f.1) (lookup (is_at (R q)) fs)) (ap (R q) (sym keys) ∙ is)
              | Equal ↦ λ is _. missing q es (level R total q e.0 is (keys_of es) s.0) ∙ sym (missing q fs (level R total q f.0 (ap (R q) (sym keys) ∙ is) (keys_of fs) t.0))
              | Greater ↦ λ is found. found ∙ ap (λ o. cond (is_eq o) (Some f.1) (lookup (is_at (R q)) fs)) (ap (R q) (sym keys) ∙ is)
            ] refl (h q)

        joined : e.0 ≡ f.0 → R e.0 f.0 ≡ Equal → (e.0 ≡ f.0 → es ≡ fs) → ◌≡◌ {A = List (K × X)} (e ∷ es) (f ∷ fs)
        joined keys is more =
            let values : e.1 ≡ f.1 = ap (λ u. unwrap_or u e.1) (sym (at_first e es) ∙ h e.0 ∙ ap (λ o. cond (is_eq o) (Some f.1) (lookup (is_at (R e.0)) fs)) is) in
            let rest : es ≡ fs = more keys in
            λ i. (keys i, values i) ∷ rest i

    -- the slot's key has this value
    pub entries-insert : (k : K) (v : X) (slots : List (Option (K × X))) (at : ℕ) → IsAlone R slots at k → entries_of R (set slots at (Some (k, v))) ≡ insert_entry R (entries_of R slots) k v
    entries-insert k v slots at alone =
        same-entries (entries_of R (set slots at (Some (k, v)))) (insert_entry R (entries_of R slots) k v) (sorted-entries (set slots at (Some (k, v)))) (sorted-insert R k v total (entries_of R slots) (sorted-entries slots))
        (λ q. lookup-entries q (set slots at (Some (k, v))) ∙ found-set q k (Some v) slots at alone ∙ ap (λ r. cond (is_eq (R q k)) (Some v) r) (sym (lookup-entries q slots)) ∙ sym (lookup-insert R k v total q (entries_of R slots)))

    -- the slot's key has no value any more
    pub entries-remove : (k : K) (slots : List (Option (K × X))) (at : ℕ) → IsAlone R slots at k → entries_of R (set slots at None) ≡ filter (λ e. not (is_eq (R k e.0))) (entries_of R slots)
    entries-remove k slots at alone =
        same-entries (entries_of R (set slots at None)) (filter (λ (e : K × X). not (is_eq (R k e.0))) (entries_of R slots)) (sorted-entries (set slots at None)) (sorted-filter (λ (e : K × X). e.0) R (λ e. not (is_eq (R k e.0))) (entries_of R slots) (sorted-entries slots))
        (λ q. lookup-entries q (set slots at None) ∙ found-set q k None slots at alone ∙ ap (λ r. cond (is_eq (R q k)) None r) (sym (lookup-entries q slots)) ∙ sym (lookup-without k q (entries_of R slots)))
      where
        symm : (x y : K) → is_eq (R x y) ≡ is_eq (R y x)
        symm x y = ap is_eq (total.antisymm x y) ∙ elim (R y x) as (λ o. is_eq (ordering_reverse o) ≡ is_eq o) [ Less ↦ refl | Equal ↦ refl | Greater ↦ refl ]

        turned : (b : Bool) (o : Option X) → cond (not b) o None ≡ cond b None o
        turned true o = refl
        turned false o = refl

        lookup-without : (k q : K) (es : List (K × X)) → lookup (is_at (R q)) (filter (λ e. not (is_eq (R k e.0))) es) ≡ cond (is_eq (R q k)) None (lookup (is_at (R q)) es)
        lookup-without k q es = lookup-filter-keys (is_at (R q)) (λ x. not (is_eq (R k x))) (not (is_eq (R q k))) (λ x hit. ap not (symm k x ∙ ap is_eq (sym (total.congr q x k (Equal-from (R q x) hit))))) es ∙ turned (is_eq (R q k)) (lookup (is_at (R q)) es)

    -- the slot's key, which has a value, has this one
    pub entries-write : (k : K) (w v : X) (slots : List (Option (K × X))) (at : ℕ) → IsAlone R slots at k → get_or slots at None ≡ Some (k, w) → entries_of R (set slots at (Some (k, v))) ≡ set_value (is_at (R k)) (entries_of R slots) v
    entries-write k w v slots at alone there =
        same-entries (entries_of R (set slots at (Some (k, v)))) (set_value (is_at (R k)) (entries_of R slots) v) (sorted-entries (set slots at (Some (k, v)))) (subst (IsStrictlySortedBy R) (sym (keys-set_value (is_at (R k)) (entries_of R slots) v)) (sorted-entries slots))
        (λ q. lookup-entries q (set slots at (Some (k, v))) ∙ found-set q k (Some v) slots at alone ∙ there_too q ∙ sym (lookup-set R total k q (entries_of R slots) v))
      where
        put : (q : K) (a b : Option X) → a ≡ b → (o : Ordering) → (o ≡ Equal → is_some b ≡ true) → cond (is_eq o) (Some v) b ≡ cond (is_eq o) (option_map (λ _. v) a) a
        put q a (Some x) same Equal some = sym (ap (option_map (λ _. v)) same)
        put q a None same Equal some = absurd (false≢true (some refl))
        put q a b same Less some = sym same
        put q a b same Greater some = sym same

        there_too : (q : K) → cond (is_eq (R q k)) (Some v) (found_in R q slots) ≡ cond (is_eq (R q k)) (option_map (λ _. v) (lookup (is_at (R q)) (entries_of R slots))) (lookup (is_at (R q)) (entries_of R slots))
        there_too q = put q (lookup (is_at (R q)) (entries_of R slots)) (found_in R q slots) (lookup-entries q slots) (R q k) (present q k w slots at there)

-- those that q leaves out fail p
pub filter-without : {E : Type 0} (p q : E → Bool) (es : List E) → AllByRecursion (λ e. q e ≡ false → p e ≡ false) es → filter p (filter q es) ≡ filter p es
filter-without p q [] h = refl
filter-without p q (e ∷ es) h =
    elim (q e) as (λ b. (b ≡ false → p e ≡ false) → filter p (cond b (e ∷ filter q es) (filter q es)) ≡ cond (p e) (e ∷ filter p es) (filter p es)) [
      | true ↦ λ _. ap (λ r. cond (p e) (e ∷ r) r) (filter-without p q es h.1)
      | false ↦ λ fails. filter-without p q es h.1 ∙ sym (ap (λ c. cond c (e ∷ filter p es) (filter p es)) (fails refl))
    ] h.0

pub filter-all : {E : Type 0} (p : E → Bool) (es : List E) → AllByRecursion (λ e. p e ≡ true) es → filter p es ≡ es
filter-all p [] h = refl
filter-all p (e ∷ es) h = ap (λ c. cond c (e ∷ filter p es) (filter p es)) h.0 ∙ ap (λ r. e ∷ r) (filter-all p es h.1)
