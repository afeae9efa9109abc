-- A list put in order is a sort of it, and the only one that leaves equal ones as they stood.
use Rattle.std.proofs.Common.{◌≡◌, ℕ, zero, suc, ◌+◌, ◌<◌, refl, sym, ◌∙◌, ap, arith, List, [], ◌∷◌, length, get_or, filter, Bool, true, false, cond}
use Rattle.std.specs.Prelude.{not, ◌&&◌}
use Rattle.std.specs.Cmp.{IsStrictWeakOrder}
use Rattle.std.specs.List.{AllByRecursion}
use Rattle.std.specs.List.Sorted.{IsPermutation, IsSortedBy, IsStableBy, ties}
use Rattle.std.proofs.lemmas.Bool.{false≢true}
use Rattle.std.proofs.lemmas.List.Sorted.{IsPermutation-cons, IsPermutation-middle, IsPermutation-refl, IsPermutation-trans, sorted_far}
use Rattle.stick_model.specs.Gathered.{inserted, ordered}

module _ {X : Type 0} (less : X → X → Bool) where
  -- ---- it has the same
  moved : (x : X) (ys : List X) → IsPermutation (x ∷ ys) (inserted less x ys)
  moved x [] = IsPermutation-refl (x ∷ [])
  moved x (y ∷ ys) =
      elim (less y x) as (λ b. IsPermutation (x ∷ y ∷ ys) (cond b (y ∷ inserted less x ys) (x ∷ y ∷ ys))) [
        | true ↦ IsPermutation-trans (x ∷ y ∷ ys) (y ∷ x ∷ ys) (y ∷ inserted less x ys) (IsPermutation-middle (x ∷ []) y ys) (IsPermutation-cons y (x ∷ ys) (inserted less x ys) (moved x ys))
        | false ↦ IsPermutation-refl (x ∷ y ∷ ys)
      ]

  pub order-moves : (xs : List X) → IsPermutation xs (ordered less xs)
  order-moves [] = IsPermutation-refl []
  order-moves (x ∷ xs) =
      IsPermutation-trans (x ∷ xs) (x ∷ ordered less xs) (inserted less x (ordered less xs)) (IsPermutation-cons x xs (ordered less xs) (order-moves xs)) (moved x (ordered less xs))

  -- ---- none is less than one before it
  abbrev Above : X → List X → Type 0
  Above x ys = AllByRecursion (λ y. less y x ≡ false) ys

  abbrev Rises : List X → Type 0
  Rises [] = Unit {0}
  Rises (x ∷ xs) = Above x xs × Rises xs

  above-from : (x : X) (ys : List X) → ((k : ℕ) (d : X) → k < length ys → less (get_or ys k d) x ≡ false) → Above x ys
  above-from x [] h = tt
  above-from x (y ∷ ys) h = (h 0 y (omega arith), above-from x ys (λ k d below. h (suc k) d (omega (arith, below))))

  above-at : (x : X) (ys : List X) → Above x ys → (k : ℕ) (d : X) → k < length ys → less (get_or ys k d) x ≡ false
  above-at x [] h k d below = absurd (omega (arith, below))
  above-at x (y ∷ ys) h zero d below = h.0
  above-at x (y ∷ ys) h (suc k) d below = above-at x ys h.1 k d (omega (arith, below))

  far : (xs : List X) → Rises xs → (i j : ℕ) (d : X) → i < j → j < length xs → less (get_or xs j d) (get_or xs i d) ≡ false
  far [] r i j d before below = absurd (omega (arith, below))
  far (x ∷ xs) r zero zero d before below = absurd (omega (arith, before))
  far (x ∷ xs) r zero (suc j) d before below = above-at x xs r.0 j d (omega (arith, below))
  far (x ∷ xs) r (suc i) zero d before below = absurd (omega (arith, before))
  far (x ∷ xs) r (suc i) (suc j) d before below = far xs r.1 i j d (omega (arith, before)) (omega (arith, below))

  sorted-from : (xs : List X) → Rises xs → IsSortedBy less xs
  sorted-from xs r = λ k d low within. far xs r k (k + 1) d (omega arith) within

  module _ (order : IsStrictWeakOrder less) where
    rises-from : (xs : List X) → IsSortedBy less xs → Rises xs
    rises-from [] up = tt
    rises-from (x ∷ xs) up = (
      above-from x xs (λ k d below. sorted_far less order (x ∷ xs) up 0 (suc k) d (omega arith) (omega (arith, below))),
      rises-from xs (λ k d low within. sorted_far less order (x ∷ xs) up (suc k) (suc (k + 1)) d (omega arith) (omega (arith, within))),
    )

    above-more : (x y : X) (ys : List X) → less y x ≡ false → Above y ys → Above x ys
    above-more x y [] is h = tt
    above-more x y (z ∷ zs) is h = (order.chain z y x h.0 is, above-more x y zs is h.1)

    inserted-above : (z x : X) (ys : List X) → Above z ys → less x z ≡ false → Above z (inserted less x ys)
    inserted-above z x [] h is = (is, tt)
    inserted-above z x (y ∷ ys) h is = elim (less y x) as (λ b. Above z (cond b (y ∷ inserted less x ys) (x ∷ y ∷ ys))) [ true ↦ (h.0, inserted-above z x ys h.1 is) | false ↦ (is, h) ]

    inserted-rises : (x : X) (ys : List X) → Rises ys → Rises (inserted less x ys)
    inserted-rises x [] r = (tt, tt)
    inserted-rises x (y ∷ ys) r =
        elim (less y x) as (λ b. less y x ≡ b → Rises (cond b (y ∷ inserted less x ys) (x ∷ y ∷ ys))) [
          | true ↦ λ is. (inserted-above y x ys r.0 (order.one_way y x is), inserted-rises x ys r.1)
          | false ↦ λ is. ((is, above-more x y ys is r.0), r)
        ] refl

    ordered-rises : (xs : List X) → Rises (ordered less xs)
    ordered-rises [] = tt
    ordered-rises (x ∷ xs) = inserted-rises x (ordered less xs) (ordered-rises xs)

    pub order-rises : (xs : List X) → IsSortedBy less (ordered less xs)
    order-rises xs = sorted-from (ordered less xs) (ordered-rises xs)

    -- ---- equal ones are as they stood
    irreflexive : (x : X) → less x x ≡ false
    irreflexive x = elim (less x x) as (λ b. less x x ≡ b → b ≡ false) [ true ↦ λ is. sym is ∙ order.one_way x x is | false ↦ λ _. refl ] refl

    tied_itself : (x : X) → ties less x x ≡ true
    tied_itself x = ap (λ b. not b && not b) (irreflexive x)

    tied : (x y : X) → less x y ≡ false → less y x ≡ false → ties less x y ≡ true
    tied x y one other = ap (λ b. not b && not (less y x)) one ∙ ap not other

    -- one that is less than another ties with nothing that the other does
    not_both : (q x y : X) → less y x ≡ true → ties less q x ≡ true → ties less q y ≡ true → ⊥
    not_both q x y is with_x with_y = go (less q x) (less y q) refl refl with_x with_y
      where
        go : (a b : Bool) → less q x ≡ a → less y q ≡ b → (not a && not (less x q)) ≡ true → (not (less q y) && not b) ≡ true → ⊥
        go true b one other h k = false≢true h
        go false true one other h k = elim (less q y) as (λ c. (not c && false) ≡ true → ⊥) [ true ↦ λ e. false≢true e | false ↦ λ e. false≢true e ] k
        go false false one other h k = false≢true (sym (order.chain y q x other one) ∙ is)

    kept : (q x : X) (ys : List X) → filter (ties less q) (inserted less x ys) ≡ filter (ties less q) (x ∷ ys)
    kept q x [] = refl
    kept q x (y ∷ ys) =
        elim (less y x) as (λ b. less y x ≡ b → filter (ties less q) (cond b (y ∷ inserted less x ys) (x ∷ y ∷ ys)) ≡ filter (ties less q) (x ∷ y ∷ ys)) [
          | true ↦ λ is. swaps (kept q x ys) (ties less q x) (ties less q y) refl refl is
          | false ↦ λ _. refl
        ] refl
      where
        rest : List X
        rest = filter (ties less q) ys

        more : List X
        more = filter (ties less q) (inserted less x ys)

        swaps : more ≡ cond (ties less q x) (x ∷ rest) rest → (a b : Bool) → ties less q x ≡ a → ties less q y ≡ b → less y x ≡ true → cond b (y ∷ more) more ≡ cond a (x ∷ cond b (y ∷ rest) rest) (cond b (y ∷ rest) rest)
        swaps later true true one other is = absurd (not_both q x y is one other)
        swaps later true false one other is = later ∙ ap (λ c. cond c (x ∷ rest) rest) one
        swaps later false b one other is = ap (λ l. cond b (y ∷ l) l) (later ∙ ap (λ c. cond c (x ∷ rest) rest) one)

    pub order-keeps : (xs : List X) (q : X) → filter (ties less q) (ordered less xs) ≡ filter (ties less q) xs
    order-keeps [] q = refl
    order-keeps (x ∷ xs) q = kept q x (ordered less xs) ∙ ap (λ l. cond (ties less q x) (x ∷ l) l) (order-keeps xs q)

    -- ---- there is no other
    apart : (y x z : X) → less y x ≡ true → less z x ≡ false → ties less y z ≡ false
    apart y x z is low =
        elim (less y z) as (λ b. less y z ≡ b → (not b && not (less z y)) ≡ false) [
          | true ↦ λ _. refl
          | false ↦ λ one. absurd (false≢true (sym (order.chain y z x one low) ∙ is))
        ] refl

    none-ties : (y x : X) (zs : List X) → less y x ≡ true → Above x zs → filter (ties less y) zs ≡ []
    none-ties y x [] is h = refl
    none-ties y x (z ∷ zs) is h = ap (λ b. cond b (z ∷ filter (ties less y) zs) (filter (ties less y) zs)) (apart y x z is h.0) ∙ none-ties y x zs is h.1

    -- the first of one list isn't below all of the other
    not_below : (x : X) (xs : List X) (y : X) (ys : List X) → Above x xs → filter (ties less y) (x ∷ xs) ≡ filter (ties less y) (y ∷ ys) → less y x ≡ false
    not_below x xs y ys h same =
        elim (less y x) as (λ b. less y x ≡ b → b ≡ false) [
          | true ↦ λ is.
              let none : filter (ties less y) (x ∷ xs) ≡ [] = none-ties y x (x ∷ xs) is (irreflexive x, h) in
              let some : filter (ties less y) (y ∷ ys) ≡ y ∷ filter (ties less y) ys = ap (λ b. cond b (y ∷ filter (ties less y) ys) (filter (ties less y) ys)) (tied_itself y) in
              let bad : ◌≡◌ {A = List X} [] (y ∷ filter (ties less y) ys) = sym none ∙ same ∙ some in
              cc
          | false ↦ λ _. refl
        ] refl

    only : (xs ys : List X) → Rises xs → Rises ys → ((q : X) → filter (ties less q) xs ≡ filter (ties less q) ys) → xs ≡ ys
    only [] [] r s same = refl
    only [] (y ∷ ys) r s same =
        let some : filter (ties less y) (y ∷ ys) ≡ y ∷ filter (ties less y) ys = ap (λ b. cond b (y ∷ filter (ties less y) ys) (filter (ties less y) ys)) (tied_itself y) in
        let bad : ◌≡◌ {A = List X} [] (y ∷ filter (ties less y) ys) = same y ∙ some in
        cc
    only (x ∷ xs) [] r s same =
        let some : filter (ties less x) (x ∷ xs) ≡ x ∷ filter (ties less x) xs = ap (λ b. cond b (x ∷ filter (ties less x) xs) (filter (ties less x) xs)) (tied_itself x) in
        let bad : ◌≡◌ {A = List X} [] (x ∷ filter (ties less x) xs) = sym (same x) ∙ some in
        cc
    only (x ∷ xs) (y ∷ ys) r s same =
        let low : less y x ≡ false = not_below x xs y ys r.0 (same y) in
        let high : less x y ≡ false = not_below y ys x xs s.0 (sym (same x)) in
        let first : filter (ties less x) (x ∷ xs) ≡ x ∷ filter (ties less x) xs = ap (λ b. cond b (x ∷ filter (ties less x) xs) (filter (ties less x) xs)) (tied_itself x) in
        let second : filter (ties less x) (y ∷ ys) ≡ y ∷ filter (ties less x) ys = ap (λ b. cond b (y ∷ filter (ties less x) ys) (filter (ties less x) ys)) (tied x y high low) in
        let joined : x ∷ filter (ties less x) xs ≡ y ∷ filter (ties less x) ys = sym first ∙ same x ∙ second in
        let head : x ≡ y = cc in
        let tail : xs ≡ ys = only xs ys r.1 s.1 (λ q. later q head (same q)) in
        cc
      where
        later : (q : X) → x ≡ y → filter (ties less q) (x ∷ xs) ≡ filter (ties less q) (y ∷ ys) → filter (ties less q) xs ≡ filter (ties less q) ys
        later q head all = go (ties less q x) (ap (ties less q) (sym head)) all
          where
            go : (b : Bool) → ties less q y ≡ b → cond b (x ∷ filter (ties less q) xs) (filter (ties less q) xs) ≡ cond (ties less q y) (y ∷ filter (ties less q) ys) (filter (ties less q) ys) → filter (ties less q) xs ≡ filter (ties less q) ys
            go true is h = let full : x ∷ filter (ties less q) xs ≡ y ∷ filter (ties less q) ys = h ∙ ap (λ c. cond c (y ∷ filter (ties less q) ys) (filter (ties less q) ys)) is in cc
            go false is h = h ∙ ap (λ c. cond c (y ∷ filter (ties less q) ys) (filter (ties less q) ys)) is

    -- a list sorted, with equal ones as they stood, is that list put in order
    pub order-is : (xs ys : List X) → IsSortedBy less ys → IsStableBy less xs ys → ys ≡ ordered less xs
    order-is xs ys up stable = only ys (ordered less xs) (rises-from ys up) (ordered-rises xs) (λ q. stable q ∙ sym (order-keeps xs q))
