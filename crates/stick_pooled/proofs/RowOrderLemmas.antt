-- Rows in the order of their keys are what the slots list.
use Rattle.std.proofs.Common.{◌≡◌, ℕ, suc, ◌+◌, ◌<◌, refl, sym, ◌∙◌, ap, subst, arith, List, [], ◌∷◌, length, map, get_or, Bool, true, false, cond, Option, Some, None}
use Rattle.std.specs.Prelude.{◌&&◌}
use Rattle.std.specs.BTreeMap.{is_at}
use Rattle.std.specs.Cmp.{IsTotalOrder}
use Rattle.std.specs.Cmp.Lexicographic.{nat_list_cmp_total}
use Rattle.std.specs.List.{AllByRecursion, Contains, IsDistinct}
use Rattle.std.specs.List.Sorted.{IsPermutation, IsSortedBy, IsStrictlySortedBy}
use Rattle.std.specs.Map.{keys_of, lookup, values_of}
use Rattle.std.specs.Option.{option_and_then, option_map}
use Rattle.std.specs.Ordering.{eq_by_cmp, is_eq, is_lt, ordering_reverse}
use Rattle.std.specs.declared.cmp.Ordering.{Ordering}
use Rattle.std.specs.declared.cmp.Ordering.TheVariants.{Less, Equal, Greater}
use Rattle.std.proofs.Math.ListN.{get_or-map}
use Rattle.std.proofs.lemmas.Bool.{false≢true}
use Rattle.std.proofs.lemmas.Cmp.{eq_by_cmp_equiv}
use Rattle.std.proofs.lemmas.List.{length-map}
use Rattle.std.proofs.lemmas.List.Sorted.{Contains-permutation, IsPermutation-map, IsPermutation-sym}
use Rattle.std.proofs.lemmas.Map.Entries.{lookup_from_place}
use Rattle.std.proofs.lemmas.Map.Keys.{IsDistinct-IsPermutation, apart_from_distinct, sorted_from_all_adjacent}
use Rattle.std.proofs.lemmas.Map.Lookups.{CmpEqualImpliesEq, exact_bytes}
use Rattle.std.proofs.lemmas.Option.{slice_get-get_or}
use Rattle.stored_data.specs.declared.stored_set.Column.{Column}
use Rattle.stick_pooled.specs.Slots.{entries_of, found_in, IsDistinctIn}
use Rattle.stick_pooled.specs.Stock.{Held, Stock, IsStock, AreDistinct, held_at}
use Rattle.stick_pooled.proofs.SlotLemmas.{lookup-entries, same-entries, sorted-entries}
use Rattle.stick_pooled.proofs.StockLemmas.{none_some, same_some}
use Rattle.stick_model.specs.Key.{Key, key_cmp}
use Rattle.stick_model.specs.State.{row_of}
use Rattle.stick_model.specs.declared.filters.Filter.{Filter}
use Rattle.stick_model.specs.declared.rows.Record.{Record}
use Rattle.stick_model.specs.declared.rows.Row.{Row}
use Rattle.stick_pooled.specs.Shown.{record_of, kept_keyed, kept_records}
use Rattle.stick_pooled.specs.declared.entry.Kept.{Kept}
use Rattle.stick_pooled.specs.Seen.{filled, is_kept, is_meant, listed_entries, listed_in, listed_of, listed_row}

-- ---- the orderings of two keys
no-tie : (o : Ordering) → (o ≡ Equal → ⊥) → is_eq o ≡ false
no-tie Less apart = refl
no-tie Equal apart = absurd (apart refl)
no-tie Greater apart = refl

tie : (o : Ordering) → is_eq o ≡ true → o ≡ Equal
tie Less h = absurd (false≢true h)
tie Equal h = refl
tie Greater h = absurd (false≢true h)

less : (o : Ordering) → is_lt (ordering_reverse o) ≡ false → is_eq o ≡ false → o ≡ Less
less Less h k = refl
less Equal h k = absurd (false≢true (sym k))
less Greater h k = absurd (false≢true (sym h))

-- ---- what slots have
module _ {K X : Type 0} (R : K → K → Ordering) where
  found-filled : (q : K) (slots : List (Option (K × X))) → found_in R q slots ≡ lookup (is_at (R q)) (filled slots)
  found-filled q [] = refl
  found-filled q (None ∷ slots) = found-filled q slots
  found-filled q (Some e ∷ slots) = ap (λ o. cond (is_eq (R q e.0)) (Some e.1) o) (found-filled q slots)

  keys-filled : (P : K → Type 0) (slots : List (Option (K × X))) → ((j : ℕ) (e : K × X) → get_or slots j None ≡ Some e → P e.0) → AllByRecursion P (keys_of (filled slots))
  keys-filled P [] h = tt
  keys-filled P (None ∷ slots) h = keys-filled P slots (λ j. h (suc j))
  keys-filled P (Some e ∷ slots) h = (h 0 e refl, keys-filled P slots (λ j. h (suc j)))

  distinct-filled : (slots : List (Option (K × X))) → IsDistinctIn R slots → IsDistinct (eq_by_cmp R) (keys_of (filled slots))
  unfolding IsDistinct
  distinct-filled [] distinct = tt
  distinct-filled (None ∷ slots) distinct = distinct-filled slots (λ i j d e one other same. let later : suc i ≡ suc j = distinct (suc i) (suc j) d e one other same in omega (arith, later))
  distinct-filled (Some e ∷ slots) distinct = (
    keys-filled (λ y. eq_by_cmp R e.0 y ≡ false) slots (λ j d there. no-tie (R e.0 d.0) (λ same. let apart : 0 ≡ suc j = distinct 0 (suc j) e d refl there same in omega (arith, apart))),
    distinct-filled slots (λ i j d f one other same. let later : suc i ≡ suc j = distinct (suc i) (suc j) d f one other same in omega (arith, later)),
  )

-- an entry that is found stands in the list
module _ {K X : Type 0} where
  contains-found : (test : K → Bool) (es : List (K × X)) (v : X) → lookup test es ≡ Some v → (k : K) × Contains es (k, v) × (test k ≡ true)
  contains-found test [] v found = absurd (none_some found)
  contains-found test (e ∷ es) v found = go (contains-found test es v) (test e.0) refl found
    where
      go : (lookup test es ≡ Some v → (k : K) × Contains es (k, v) × (test k ≡ true)) → (b : Bool) → test e.0 ≡ b → cond b (Some e.1) (lookup test es) ≡ Some v → (k : K) × Contains (e ∷ es) (k, v) × (test k ≡ true)
      go later true is found = let same : e.1 ≡ v = same_some found in (e.0, (0, omega arith, λ i. (e.0, same i)), is)
      go later false is found = let f = later found in (f.0, (suc f.1.0, omega (arith, f.1.1), f.1.2), f.2)

  keys-keyed : (key : X → K) (xs : List X) → keys_of (map (λ x. (key x, x)) xs) ≡ map key xs
  keys-keyed key [] = refl
  keys-keyed key (x ∷ xs) = ap (λ ks. key x ∷ ks) (keys-keyed key xs)

  values-keyed : (key : X → K) (xs : List X) → values_of (map (λ x. (key x, x)) xs) ≡ xs
  values-keyed key [] = refl
  values-keyed key (x ∷ xs) = ap (λ ys. x ∷ ys) (values-keyed key xs)

module _ {K X : Type 0} (R : K → K → Ordering) (total : IsTotalOrder R) (exact : CmpEqualImpliesEq R) where
  finds : (es fs : List (K × X)) → IsDistinct (eq_by_cmp R) (keys_of es) → IsPermutation fs es → (q : K) (v : X) → lookup (is_at (R q)) fs ≡ Some v → lookup (is_at (R q)) es ≡ Some v
  finds es fs distinct moved q v found =
      let f = contains-found (is_at (R q)) fs v found in
      let there : Contains es (f.0, v) = Contains-permutation fs es (f.0, v) moved f.1 in
      let same : q ≡ f.0 = exact q f.0 (tie (R q f.0) f.2) in
      ap (λ k. lookup (is_at (R k)) es) same ∙ lookup_from_place (eq_by_cmp_equiv total) es there.0 f.0 v distinct (slice_get-get_or es there.0 (f.0, v) there.1 ∙ ap Some there.2)

  same-found : (es fs : List (K × X)) → IsDistinct (eq_by_cmp R) (keys_of es) → IsDistinct (eq_by_cmp R) (keys_of fs) → IsPermutation es fs → (q : K) → lookup (is_at (R q)) fs ≡ lookup (is_at (R q)) es
  same-found es fs one other moved q = go (lookup (is_at (R q)) fs) (lookup (is_at (R q)) es) refl refl
    where
      go : (a b : Option X) → lookup (is_at (R q)) fs ≡ a → lookup (is_at (R q)) es ≡ b → a ≡ b
      go None None x y = refl
      go None (Some w) x y = absurd (none_some (sym x ∙ finds fs es other moved q w y))
      go (Some v) b x y = sym (finds es fs one (IsPermutation-sym es fs moved) q v x) ∙ y

  rising-keys : (key : X → K) (ys : List X) → IsSortedBy (λ a b. is_lt (R (key a) (key b))) ys → IsDistinct (eq_by_cmp R) (map key ys) → IsStrictlySortedBy R (map key ys)
  unfolding IsStrictlySortedBy
  rising-keys key [] sorted distinct = tt
  rising-keys key (y ∷ ys) sorted distinct = sorted_from_all_adjacent total (map key (y ∷ ys)) (key y) step
    where
      step : (k : ℕ) → k + 1 < length (map key (y ∷ ys)) → R (get_or (map key (y ∷ ys)) k (key y)) (get_or (map key (y ∷ ys)) (k + 1) (key y)) ≡ Less
      step k below =
          let here : K = get_or (map key (y ∷ ys)) k (key y) in
          let next : K = get_or (map key (y ∷ ys)) (k + 1) (key y) in
          let within : k + 1 < length (y ∷ ys) = subst (λ n. k + 1 < n) (length-map (y ∷ ys) key) below in
          let up : is_lt (R next here) ≡ false = ap (λ (p : K × K). is_lt (R p.0 p.1)) (λ i. (get_or-map key (y ∷ ys) (k + 1) y i, get_or-map key (y ∷ ys) k y i)) ∙ sorted k y (omega arith) within in
          less (R here next) (ap is_lt (sym (total.antisymm next here)) ∙ up) (apart_from_distinct (eq_by_cmp R) (map key (y ∷ ys)) k (k + 1) (key y) distinct (omega arith) below)

  -- what the slots have, once it is in the order of the keys, are their entries
  pub sorted-is : (key : X → K) (slots : List (Option (K × X))) (xs ys : List X) → filled slots ≡ map (λ x. (key x, x)) xs → IsDistinctIn R slots → IsPermutation xs ys
      → IsSortedBy (λ a b. is_lt (R (key a) (key b))) ys → ys ≡ values_of (entries_of R slots)
  sorted-is key slots xs ys is distinct moved sorted =
      let keyed : X → K × X = λ x. (key x, x) in
      let es : List (K × X) = map keyed xs in
      let fs : List (K × X) = map keyed ys in
      let one : IsDistinct (eq_by_cmp R) (keys_of es) = subst (λ all. IsDistinct (eq_by_cmp R) (keys_of all)) is (distinct-filled R slots distinct) in
      let pairs : IsPermutation es fs = IsPermutation-map keyed xs ys moved in
      let keys : IsPermutation (keys_of es) (keys_of fs) = IsPermutation-map (λ (e : K × X). e.0) es fs pairs in
      let other : IsDistinct (eq_by_cmp R) (keys_of fs) = IsDistinct-IsPermutation (eq_by_cmp R) (eq_by_cmp_equiv total).symm (keys_of es) (keys_of fs) keys one in
      let up : IsStrictlySortedBy R (keys_of fs) = subst (IsStrictlySortedBy R) (sym (keys-keyed key ys)) (rising-keys key ys sorted (subst (IsDistinct (eq_by_cmp R)) (keys-keyed key ys) other)) in
      let same : fs ≡ entries_of R slots = same-entries R total exact fs (entries_of R slots) up (sorted-entries R total slots)
      (λ q. same-found es fs one other pairs q ∙ ap (lookup (is_at (R q))) (sym is) ∙ sym (found-filled R q slots) ∙ sym (lookup-entries R total q slots)) in
      sym (values-keyed key ys) ∙ ap values_of same

-- the same of pairs of a key and what it has
sorted-pairs : {K X : Type 0} (R : K → K → Ordering) (total : IsTotalOrder R) (exact : CmpEqualImpliesEq R) (slots : List (Option (K × X))) (ys : List (K × X)) → IsDistinctIn R slots → IsPermutation (filled slots) ys
    → IsSortedBy (λ (a b : K × X). is_lt (R a.0 b.0)) ys → ys ≡ entries_of R slots
sorted-pairs {K} {X} R total exact slots ys distinct moved sorted =
    let one : IsDistinct (eq_by_cmp R) (keys_of (filled slots)) = distinct-filled R slots distinct in
    let keys : IsPermutation (keys_of (filled slots)) (keys_of ys) = IsPermutation-map (λ (e : K × X). e.0) (filled slots) ys moved in
    let other : IsDistinct (eq_by_cmp R) (keys_of ys) = IsDistinct-IsPermutation (eq_by_cmp R) (eq_by_cmp_equiv total).symm (keys_of (filled slots)) (keys_of ys) keys one in
    same-entries R total exact ys (entries_of R slots) (rising-keys R total exact (λ (e : K × X). e.0) ys sorted other) (sorted-entries R total slots)
    (λ q. same-found R total exact (filled slots) ys one other moved q ∙ sym (found-filled R q slots) ∙ sym (lookup-entries R total q slots))

-- ---- what a listing shows
module _ (columns : List Column) (expire : Option ℕ) (clock : ℕ) (choice : Filter) where
  abbrev shown : Held → Row
  shown h = row_of columns clock h.entry.refs h.key (record_of expire h)

  listed-keyed : (slots : List (Option Held)) → filled (map (option_and_then (listed_of columns expire clock choice)) slots) ≡ map (λ (row : Row). (row.key, row)) (listed_in columns expire clock choice slots)
  listed-keyed [] = refl
  listed-keyed (None ∷ slots) = listed-keyed slots
  listed-keyed (Some h ∷ slots) = go (listed-keyed slots) (is_kept clock expire h && is_meant clock choice h)
    where
      rest : List (Option (Key × Row))
      rest = map (option_and_then (listed_of columns expire clock choice)) slots

      rows : List (Option Row)
      rows = map (listed_row columns expire clock choice) slots

      go : filled rest ≡ map (λ (row : Row). (row.key, row)) (filled rows) → (b : Bool)
          → filled (cond b (Some (h.key, shown h)) None ∷ rest) ≡ map (λ (row : Row). (row.key, row)) (filled (option_map (λ (entry : Key × Row). entry.1) (cond b (Some (h.key, shown h)) None) ∷ rows))
      go more true = ap (λ es. (h.key, shown h) ∷ es) more
      go more false = more

  listed-from : (o : Option Held) (d : Key × Row) → option_and_then (listed_of columns expire clock choice) o ≡ Some d → (h : Held) × (o ≡ Some h) × (h.key ≡ d.0)
  listed-from None d is = absurd (none_some is)
  listed-from (Some h) d is = go (is_kept clock expire h && is_meant clock choice h) is
    where
      go : (b : Bool) → cond b (Some (h.key, shown h)) None ≡ Some d → (other : Held) × (Some h ≡ Some other) × (other.key ≡ d.0)
      go true is = (h, refl, ap (λ (e : Key × Row). e.0) (same_some is))
      go false is = absurd (none_some is)

  distinct-listed : (s : Stock) → IsStock s → IsDistinctIn key_cmp (map (option_and_then (listed_of columns expire clock choice)) s.slots)
  distinct-listed s kept i j d e one other same =
      let a = listed-from (held_at s i) d (sym (get_or-map (option_and_then (listed_of columns expire clock choice)) s.slots i None) ∙ one) in
      let b = listed-from (held_at s j) e (sym (get_or-map (option_and_then (listed_of columns expire clock choice)) s.slots j None) ∙ other) in
      kept.distinct i j a.0 b.0 a.1 b.1 (a.2 ∙ exact_bytes d.0 e.0 same ∙ sym b.2)

  -- the rows of the slots, in the order of their keys
  pub rows-sorted : (s : Stock) (rows sorted : List Row) → IsStock s → rows ≡ listed_in columns expire clock choice s.slots → IsPermutation rows sorted
      → IsSortedBy (λ (a b : Row). is_lt (key_cmp a.key b.key)) sorted → sorted ≡ values_of (listed_entries columns expire clock choice s.slots)
  rows-sorted s rows sorted kept is moved up =
      sorted-is key_cmp nat_list_cmp_total exact_bytes (λ (row : Row). row.key) (map (option_and_then (listed_of columns expire clock choice)) s.slots) rows sorted
      (listed-keyed s.slots ∙ ap (map (λ (row : Row). (row.key, row))) (sym is)) (distinct-listed s kept) moved up

-- ---- what is copied
module _ (expire : Option ℕ) where
  kept-from : (o : Option Kept) (d : Key × Record) → option_map (kept_keyed expire) o ≡ Some d → (k : Kept) × (o ≡ Some k) × (k.key ≡ d.0)
  kept-from None d is = absurd (none_some is)
  kept-from (Some k) d is = (k, refl, ap (λ (e : Key × Record). e.0) (same_some is))

  distinct-kept : (slots : List (Option Kept)) → AreDistinct slots → IsDistinctIn key_cmp (map (option_map (kept_keyed expire)) slots)
  distinct-kept slots apart i j d e one other same =
      let a = kept-from (get_or slots i None) d (sym (get_or-map (option_map (kept_keyed expire)) slots i None) ∙ one) in
      let b = kept-from (get_or slots j None) e (sym (get_or-map (option_map (kept_keyed expire)) slots j None) ∙ other) in
      apart i j a.0 b.0 a.1 b.1 (a.2 ∙ exact_bytes d.0 e.0 same ∙ sym b.2)

  -- the records of the slots, in the order of their keys
  pub records-sorted : (slots : List (Option Kept)) (pairs sorted : List (Key × Record)) → AreDistinct slots → pairs ≡ filled (map (option_map (kept_keyed expire)) slots) → IsPermutation pairs sorted
      → IsSortedBy (λ (a b : Key × Record). is_lt (key_cmp a.0 b.0)) sorted → sorted ≡ kept_records expire slots
  records-sorted slots pairs sorted apart is moved up =
      sorted-pairs key_cmp nat_list_cmp_total exact_bytes (map (option_map (kept_keyed expire)) slots) sorted (distinct-kept slots apart) (subst (λ all. IsPermutation all sorted) is moved) up
