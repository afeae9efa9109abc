-- On entries in the order of their keys.
use Rattle.std.proofs.Common.{◌≡◌, ℕ, ◌+◌, ◌<◌, List, [], ◌∷◌, ◌++◌, length, take, drop, set, get_or, refl, arith, ap, sym, ◌∙◌, Bool, true, false, cond, filter, Some, None, not, ◌&&◌, nat_eq, zero, suc, ◌≤◌, ◌≢◌}
use Rattle.std.specs.List.{list_all}
use Rattle.std.proofs.lemmas.List.Sums.{length-filter, count_by-le-length}
use Rattle.std.proofs.lemmas.Bool.{false≢true}
use Rattle.std.proofs.lemmas.Bool.Decides.{nat_tests}
use Rattle.std.specs.BTreeMap.{insert_entry}
use Rattle.std.specs.Map.{lookup, set_value}
use Rattle.std.specs.declared.cmp.Ordering.{Ordering}
use Rattle.std.specs.declared.cmp.Ordering.TheVariants.{Less, Equal, Greater}
use Rattle.std.specs.Ordering.{is_eq, match_ordering}
use Rattle.std.proofs.lemmas.List.{at_drop_more, take-set, drop-set, take-append-drop, get_or_default}

pub Equal-from : (o : Ordering) → is_eq o ≡ true → o ≡ Equal
Equal-from Less h = cc
Equal-from Equal h = refl
Equal-from Greater h = cc

module _ {K X : Type 0} (R : K → K → Ordering) where
  insert-head : (e : K × X) (es : List (K × X)) (k : K) (v : X) → R k e.0 ≡ Equal → insert_entry R (e ∷ es) k v ≡ (e.0, v) ∷ es
  insert-head e es k v h = ap (λ o. match_ordering o ((k, v) ∷ e ∷ es) ((e.0, v) ∷ es) (e ∷ insert_entry R es k v)) h

  -- the key stands at the place i
  pub insert-here : (es : List (K × X)) (i : ℕ) (k : K) (v : X) (x y : K × X) → i < length es → x ≡ get_or es i x → y ≡ get_or es i y → is_eq (R k x.0) ≡ true
      → insert_entry R es k v ≡ take i es ++ insert_entry R (drop i es) k v → set es i (y.0, v) ≡ insert_entry R es k v
  insert-here es i k v x y h is_x is_y same behind =
      let one : y ≡ x = is_y ∙ get_or_default es i y x h ∙ sym is_x in
      let left : set es i (y.0, v) ≡ take i es ++ (y.0, v) ∷ drop (i + 1) es =
      sym (take-append-drop i (set es i (y.0, v))) ∙ ap (λ a. a ++ drop i (set es i (y.0, v))) (take-set es i (y.0, v)) ∙ ap (λ b. take i es ++ b) (drop-set es i (y.0, v) h) in
      let right : insert_entry R (drop i es) k v ≡ (x.0, v) ∷ drop (i + 1) es =
      at_drop_more (λ fs. insert_entry R fs k v) es i x h ∙ ap (λ e. insert_entry R (e ∷ drop (i + 1) es) k v) (sym is_x) ∙ insert-head x (drop (i + 1) es) k v (Equal-from (R k x.0) same) in
      left ∙ ap (λ e. take i es ++ (e.0, v) ∷ drop (i + 1) es) one ∙ sym (behind ∙ ap (λ b. take i es ++ b) right)

module _ {K X : Type 0} (test : K → Bool) where
  -- the first entry that passes stands at the place i
  pub lookup-here : (es : List (K × X)) (i : ℕ) (d : K × X) → i < length es → test (get_or es i d).0 ≡ true → lookup test (drop i es) ≡ lookup test es → lookup test es ≡ Some (get_or es i d).1
  lookup-here es i d h here found = sym found ∙ at_drop_more (lookup test) es i d h ∙ ap (λ b. cond b (Some (get_or es i d).1) (lookup test (drop (i + 1) es))) here

  pub set_value-here : (es : List (K × X)) (i : ℕ) (d : K × X) (w : X) → i < length es → test (get_or es i d).0 ≡ true → set_value test es w ≡ take i es ++ set_value test (drop i es) w → set_value test es w ≡ set es i ((get_or es i d).0, w)
  set_value-here es i d w h here behind =
      let right : set_value test (drop i es) w ≡ ((get_or es i d).0, w) ∷ drop (i + 1) es =
      at_drop_more (λ fs. set_value test fs w) es i d h ∙ ap (λ b. cond b (((get_or es i d).0, w) ∷ drop (i + 1) es) (get_or es i d ∷ set_value test (drop (i + 1) es) w)) here in
      let left : set es i ((get_or es i d).0, w) ≡ take i es ++ ((get_or es i d).0, w) ∷ drop (i + 1) es =
      sym (take-append-drop i (set es i ((get_or es i d).0, w))) ∙ ap (λ a. a ++ drop i (set es i ((get_or es i d).0, w))) (take-set es i ((get_or es i d).0, w)) ∙ ap (λ b. take i es ++ b) (drop-set es i ((get_or es i d).0, w) h) in
      behind ∙ ap (λ b. take i es ++ b) right ∙ sym left

-- a place for each of n numbers
differs : (a k n : ℕ) → k < n → nat_eq a n ≡ true → nat_eq a k ≡ false
differs a k n h e = grind (arith, nat_tests)

module _ {X : Type 0} (slot : X → ℕ) where
  still : (xs : List X) (k n : ℕ) → k < n → list_all (λ x. not (nat_eq (slot x) k)) xs ≡ false → list_all (λ x. not (nat_eq (slot x) k)) (filter (λ x. not (nat_eq (slot x) n)) xs) ≡ false
  still [] k n h e = e
  still (x ∷ xs) k n h e =
      elim (nat_eq (slot x) n) as (λ b. nat_eq (slot x) n ≡ b → list_all (λ x. not (nat_eq (slot x) k)) (cond (not b) (x ∷ filter (λ x. not (nat_eq (slot x) n)) xs) (filter (λ x. not (nat_eq (slot x) n)) xs)) ≡ false) [
        | true ↦ λ is. still xs k n h (ap (λ b. not b && list_all (λ x. not (nat_eq (slot x) k)) xs) (sym (differs (slot x) k n h is)) ∙ e)
        | false ↦ λ is. elim (nat_eq (slot x) k) as (λ b. not b && list_all (λ x. not (nat_eq (slot x) k)) xs ≡ false → not b && list_all (λ x. not (nat_eq (slot x) k)) (filter (λ x. not (nat_eq (slot x) n)) xs) ≡ false) [
          | true ↦ λ _. refl
          | false ↦ λ f. still xs k n h f
        ] e
      ] refl

  fewer : (xs : List X) (n : ℕ) → list_all (λ x. not (nat_eq (slot x) n)) xs ≡ false → length (filter (λ x. not (nat_eq (slot x) n)) xs) + 1 ≤ length xs
  fewer [] n e = absurd (false≢true (sym e))
  fewer (x ∷ xs) n e =
      elim (nat_eq (slot x) n) as (λ b. not b && list_all (λ x. not (nat_eq (slot x) n)) xs ≡ false → length (cond (not b) (x ∷ filter (λ x. not (nat_eq (slot x) n)) xs) (filter (λ x. not (nat_eq (slot x) n)) xs)) + 1 ≤ length (x ∷ xs)) [
        | true ↦ λ _. omega (arith, length-filter (λ x. not (nat_eq (slot x) n)) xs, count_by-le-length (λ x. not (nat_eq (slot x) n)) xs)
        | false ↦ λ f. omega (arith, fewer xs n f)
      ] e

  pub pigeonhole : (n : ℕ) (xs : List X) → ((k : ℕ) → k < n → list_all (λ x. not (nat_eq (slot x) k)) xs ≡ false) → n ≤ length xs
  pigeonhole zero xs h = omega arith
  pigeonhole (suc n) xs h =
      omega (arith, fewer xs n (h n (omega arith)), pigeonhole n (filter (λ x. not (nat_eq (slot x) n)) xs) (λ k lt. still xs k n lt (h k (omega arith))))

module _ {K X : Type 0} (test : K → Bool) where
  -- one that is found is left out
  pub fewer_without : (es : List (K × X)) → lookup test es ≢ None → length (filter (λ e. not (test e.0)) es) + 1 ≤ length es
  fewer_without [] h = absurd (h refl)
  fewer_without (e ∷ es) h =
      elim (test e.0) as (λ b. (cond b (Some e.1) (lookup test es) ≢ None) → length (cond (not b) (e ∷ filter (λ e. not (test e.0)) es) (filter (λ e. not (test e.0)) es)) + 1 ≤ length (e ∷ es)) [
        | true ↦ λ _. omega (arith, length-filter (λ (e : K × X). not (test e.0)) es, count_by-le-length (λ (e : K × X). not (test e.0)) es)
        | false ↦ λ f. omega (arith, fewer_without es f)
      ] h
