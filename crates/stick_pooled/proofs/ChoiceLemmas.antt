-- Which entries of slots are chosen, and what is shown of them.
use Rattle.std.proofs.Common.{◌≡◌, ℕ, suc, refl, sym, ◌∙◌, ap, arith, List, [], ◌∷◌, filter, map, get_or, Bool, true, false, cond, Option, Some, None}
use Rattle.std.specs.Prelude.{◌&&◌}
use Rattle.std.specs.BTreeMap.{insert_entry, is_at}
use Rattle.std.specs.Cmp.{IsTotalOrder}
use Rattle.std.specs.List.{AllByRecursion}
use Rattle.std.specs.List.Sorted.{IsStrictlySortedBy}
use Rattle.std.specs.Map.{keys_of, lookup}
use Rattle.std.specs.Option.{option_map, option_and_then}
use Rattle.std.specs.Ordering.{is_eq, match_ordering}
use Rattle.std.specs.declared.cmp.Ordering.{Ordering}
use Rattle.std.specs.declared.cmp.Ordering.TheVariants.{Less, Equal, Greater}
use Rattle.stick_pooled.specs.Slots.{entries_of, IsDistinctIn}
use Rattle.stick_pooled.proofs.StockLemmas.{none_some}
use Rattle.stick_pooled.proofs.SlotLemmas.{above, sorted-entries, lookup-entries, absent}

-- an entry that is below all comes first
insert-first : {K Y : Type 0} (R : K → K → Ordering) (k : K) (w : Y) (es : List (K × Y)) → AllByRecursion (λ y. R k y ≡ Less) (keys_of es) → insert_entry R es k w ≡ (k, w) ∷ es
insert-first R k w [] h = refl
insert-first R k w (e ∷ es) h = ap (λ o. match_ordering o ((k, w) ∷ e ∷ es) ((e.0, w) ∷ es) (e ∷ insert_entry R es k w)) h.0

module _ {K X Y : Type 0} (R : K → K → Ordering) (p : K × X → Bool) (f : K × X → Y) where
  -- those that pass, each with what is shown of it
  abbrev pub chosen : List (K × X) → List (K × Y)
  chosen es = map {B = K × Y} (λ (e : K × X). (e.0, f e)) (filter p es)

  all-chosen : (P : K → Type 0) (es : List (K × X)) → AllByRecursion P (keys_of es) → AllByRecursion P (keys_of (chosen es))
  all-chosen P [] h = tt
  all-chosen P (e ∷ es) h = go (all-chosen P es h.1) (p e)
    where
      go : AllByRecursion P (keys_of (chosen es)) → (b : Bool) → AllByRecursion P (keys_of (map {B = K × Y} (λ (x : K × X). (x.0, f x)) (cond b (e ∷ filter p es) (filter p es))))
      go rest true = (h.0, rest)
      go rest false = rest

  -- a new entry that passes is shown too
  insert-kept : IsTotalOrder R → (k : K) (v : X) (es : List (K × X)) → IsStrictlySortedBy R (keys_of es) → lookup (is_at (R k)) es ≡ None → p (k, v) ≡ true → chosen (insert_entry R es k v) ≡ insert_entry R (chosen es) k (f (k, v))
  unfolding IsStrictlySortedBy
  insert-kept total k v [] sorted none passes = ap (λ b. map {B = K × Y} (λ (x : K × X). (x.0, f x)) (cond b ((k, v) ∷ []) [])) passes
  insert-kept total k v (e ∷ es) sorted none passes = go (insert-kept total k v es sorted.1) (R k e.0) refl none
    where
      go : (lookup (is_at (R k)) es ≡ None → p (k, v) ≡ true → chosen (insert_entry R es k v) ≡ insert_entry R (chosen es) k (f (k, v)))
          → (o : Ordering) → R k e.0 ≡ o → cond (is_eq o) (Some e.1) (lookup (is_at (R k)) es) ≡ None
          → chosen (match_ordering o ((k, v) ∷ e ∷ es) ((e.0, v) ∷ es) (e ∷ insert_entry R es k v)) ≡ insert_entry R (chosen (e ∷ es)) k (f (k, v))
      go more Less is none =
          ap (λ b. map {B = K × Y} (λ (x : K × X). (x.0, f x)) (cond b ((k, v) ∷ filter p (e ∷ es)) (filter p (e ∷ es)))) passes
          ∙ sym (insert-first R k (f (k, v)) (chosen (e ∷ es)) (all-chosen (λ y. R k y ≡ Less) (e ∷ es) (is, above R total k e.0 is (keys_of es) sorted.0)))
      go more Equal is none = absurd (none_some (sym none))
      go more Greater is none = each (p e)
        where
          each : (b : Bool) → map {B = K × Y} (λ (x : K × X). (x.0, f x)) (cond b (e ∷ filter p (insert_entry R es k v)) (filter p (insert_entry R es k v))) ≡ insert_entry R (map {B = K × Y} (λ (x : K × X). (x.0, f x)) (cond b (e ∷ filter p es) (filter p es))) k (f (k, v))
          each true = ap (λ r. (e.0, f e) ∷ r) (more none passes) ∙ sym (ap (λ o. match_ordering o ((k, f (k, v)) ∷ (e.0, f e) ∷ chosen es) ((e.0, f (k, v)) ∷ chosen es) ((e.0, f e) ∷ insert_entry R (chosen es) k (f (k, v)))) is)
          each false = more none passes

  -- one that fails isn't
  insert-dropped : (k : K) (v : X) (es : List (K × X)) → lookup (is_at (R k)) es ≡ None → p (k, v) ≡ false → chosen (insert_entry R es k v) ≡ chosen es
  insert-dropped k v [] none fails = ap (λ b. map {B = K × Y} (λ (x : K × X). (x.0, f x)) (cond b ((k, v) ∷ []) [])) fails
  insert-dropped k v (e ∷ es) none fails = go (insert-dropped k v es) (R k e.0) none
    where
      go : (lookup (is_at (R k)) es ≡ None → p (k, v) ≡ false → chosen (insert_entry R es k v) ≡ chosen es)
          → (o : Ordering) → cond (is_eq o) (Some e.1) (lookup (is_at (R k)) es) ≡ None
          → chosen (match_ordering o ((k, v) ∷ e ∷ es) ((e.0, v) ∷ es) (e ∷ insert_entry R es k v)) ≡ chosen (e ∷ es)
      go more Less none = ap (λ b. map {B = K × Y} (λ (x : K × X). (x.0, f x)) (cond b ((k, v) ∷ filter p (e ∷ es)) (filter p (e ∷ es)))) fails
      go more Equal none = absurd (none_some (sym none))
      go more Greater none = each (p e)
        where
          each : (b : Bool) → map {B = K × Y} (λ (x : K × X). (x.0, f x)) (cond b (e ∷ filter p (insert_entry R es k v)) (filter p (insert_entry R es k v))) ≡ map {B = K × Y} (λ (x : K × X). (x.0, f x)) (cond b (e ∷ filter p es) (filter p es))
          each true = ap (λ r. (e.0, f e) ∷ r) (more none fails)
          each false = more none fails

  -- where each slot shows what it has if it passes, the entries shown are those that pass
  pub entries-chosen : IsTotalOrder R → {A : Type 0} (g : A → K × X) (h : A → Option (K × Y)) (slots : List (Option A)) → IsDistinctIn R (map (option_map g) slots)
      → ((j : ℕ) (a : A) → get_or slots j None ≡ Some a → h a ≡ cond (p (g a)) (Some ((g a).0, f (g a))) None)
      → entries_of R (map (option_and_then h) slots) ≡ chosen (entries_of R (map (option_map g) slots))
  entries-chosen total g h [] distinct shows = refl
  entries-chosen total g h (None ∷ slots) distinct shows =
      entries-chosen total g h slots (λ i j d e one other same. let later : suc i ≡ suc j = distinct (suc i) (suc j) d e one other same in omega (arith, later)) (λ j. shows (suc j))
  entries-chosen total {A} g h (Some a ∷ slots) distinct shows =
      ap (λ o. entries_of R (o ∷ map (option_and_then h) slots)) (shows 0 a refl)
      ∙ go (entries-chosen total g h slots (λ i j d e one other same. let later : suc i ≡ suc j = distinct (suc i) (suc j) d e one other same in omega (arith, later)) (λ j. shows (suc j))) (p (g a)) refl
    where
      rest : List (K × X)
      rest = entries_of R (map (option_map g) slots)

      alone : lookup (is_at (R (g a).0)) rest ≡ None
      alone =
          lookup-entries R total (g a).0 (map (option_map g) slots)
          ∙ absent R total (g a).0 (map (option_map g) slots) (λ j d there same. let apart : 0 ≡ suc j = distinct 0 (suc j) (g a) d refl there same in omega (arith, apart))

      go : entries_of R (map (option_and_then h) slots) ≡ chosen rest → (b : Bool) → p (g a) ≡ b
          → entries_of R (cond b (Some ((g a).0, f (g a))) None ∷ map (option_and_then h) slots) ≡ chosen (insert_entry R rest (g a).0 (g a).1)
      go more true is =
          ap (λ es. insert_entry R es (g a).0 (f (g a))) more
          ∙ sym (insert-kept total (g a).0 (g a).1 rest (sorted-entries R total (map (option_map g) slots)) alone is)
      go more false is = more ∙ sym (insert-dropped (g a).0 (g a).1 rest alone is)

-- what is shown of those that pass two tests, one after the other
pub values-chosen : {K X Y : Type 0} (q r : K × X → Bool) (f : K × X → Y) (es : List (K × X)) → map (λ (e : K × Y). e.1) (map (λ (e : K × X). (e.0, f e)) (filter (λ e. q e && r e) es)) ≡ map f (filter r (filter q es))
values-chosen q r f [] = refl
values-chosen {K} {X} {Y} q r f (e ∷ es) = go (values-chosen q r f es) (q e) (r e) refl
  where
    go : map (λ (x : K × Y). x.1) (map {B = K × Y} (λ (x : K × X). (x.0, f x)) (filter (λ x. q x && r x) es)) ≡ map f (filter r (filter q es)) → (a b : Bool) → r e ≡ b
        → map (λ (x : K × Y). x.1) (map {B = K × Y} (λ (x : K × X). (x.0, f x)) (cond (a && b) (e ∷ filter (λ x. q x && r x) es) (filter (λ x. q x && r x) es))) ≡ map f (filter r (cond a (e ∷ filter q es) (filter q es)))
    go more true true is = ap (λ ys. f e ∷ ys) more ∙ sym (ap (λ c. map f (cond c (e ∷ filter r (filter q es)) (filter r (filter q es)))) is)
    go more true false is = more ∙ sym (ap (λ c. map f (cond c (e ∷ filter r (filter q es)) (filter r (filter q es)))) is)
    go more false b is = more
