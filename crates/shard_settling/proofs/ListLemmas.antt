-- A fact of each element, as far as a loop has come.
use Rattle.std.proofs.Common.{◌≡◌, ℕ, zero, suc, ◌+◌, ◌<◌, List, [], ◌∷◌, length, get_or, Some, sym, ap, ◌∙◌, subst, arith, ⊎_elim}
use Rattle.std.specs.Prelude.{slice_get}
use Rattle.std.proofs.lemmas.Bool.{cases_eq}
use Rattle.std.proofs.lemmas.Option.{slice_get-get_or}

pub get_at : {X : Type 0} (xs : List X) (i : ℕ) (x : X) → i < length xs → x ≡ get_or xs i x → slice_get xs i ≡ Some x
get_at xs i x below is = slice_get-get_or xs i x below ∙ ap Some (sym is)

pub in_range : {X : Type 0} (xs : List X) (i : ℕ) (x : X) → slice_get xs i ≡ Some x → i < length xs
in_range [] i x e = absurd (cc)
in_range (y ∷ xs) zero x e = omega arith
in_range (y ∷ xs) (suc i) x e = let h : i < length xs = in_range xs i x e in omega arith

pub same_some : {X : Type 0} (x y : X) → Some x ≡ Some y → x ≡ y
same_some x y e = cc

-- what is at one place of a list
pub same_at : {X : Type 0} (xs : List X) (i : ℕ) (x y : X) → slice_get xs i ≡ Some x → slice_get xs i ≡ Some y → x ≡ y
same_at xs i x y here there = same_some x y (sym here ∙ there)

pub below_next : {X : Type 0} (P : ℕ → X → Type 0) (xs : List X) (i : ℕ) (x : X) → slice_get xs i ≡ Some x → ((k : ℕ) (b : X) → k < i → slice_get xs k ≡ Some b → P k b) → P i x → (k : ℕ) (b : X) → k < i + 1 → slice_get xs k ≡ Some b → P k b
below_next P xs i x at below here k b lt e =
    ⊎_elim
    (λ (is : k ≡ i).
    let same : x ≡ b = same_at xs i x b at (ap (slice_get xs) (sym is) ∙ e) in
    subst (P k) same (subst (λ j. P j x) (sym is) here))
    (λ (other : k ≡ i → ⊥). below k b (omega arith) e)
    (cases_eq k i)

-- the same of what stands at one place of two lists
pub both_below_next : {X Y : Type 0} (P : ℕ → X → Y → Type 0) (xs : List X) (ys : List Y) (i : ℕ) (x : X) (y : Y) → slice_get xs i ≡ Some x → slice_get ys i ≡ Some y
    → ((k : ℕ) (a : X) (b : Y) → k < i → slice_get xs k ≡ Some a → slice_get ys k ≡ Some b → P k a b) → P i x y → (k : ℕ) (a : X) (b : Y) → k < i + 1 → slice_get xs k ≡ Some a → slice_get ys k ≡ Some b → P k a b
both_below_next P xs ys i x y at too below here k a b lt e f =
    ⊎_elim
    (λ (is : k ≡ i).
    let first : x ≡ a = same_at xs i x a at (ap (slice_get xs) (sym is) ∙ e) in
    let second : y ≡ b = same_at ys i y b too (ap (slice_get ys) (sym is) ∙ f) in
    subst (λ z. P k a z) second (subst (λ z. P k z y) first (subst (λ j. P j x y) (sym is) here)))
    (λ (other : k ≡ i → ⊥). below k a b (omega arith) e f)
    (cases_eq k i)
