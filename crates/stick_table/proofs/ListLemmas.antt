-- On lists.
use Rattle.std.proofs.Common.{◌≡◌, ℕ, ◌+◌, ◌<◌, List, [], ◌∷◌, ◌++◌, length, drop, map, get_or, ap, sym, ◌∙◌, Bool, true, false, cond, ◌&&◌, filter, Some, append_assoc}
use Rattle.std.specs.List.{list_all}
use Rattle.std.specs.Map.{lookup}
use Rattle.std.proofs.lemmas.List.{at_drop_more}

-- the first element of what is left fails the test
pub list_all-fails : {X : Type 0} → (p : X → Bool) (xs : List X) (i : ℕ) (x : X) → i < length xs → x ≡ get_or xs i x → p x ≡ false → list_all p (drop i xs) ≡ false
list_all-fails p xs i x h is fails = at_drop_more (list_all p) xs i x h ∙ ap (λ y. p y && list_all p (drop (i + 1) xs)) (sym is) ∙ ap (λ b. b && list_all p (drop (i + 1) xs)) fails

-- the first entry of what is left is kept and found
pub lookup-filter_hits : {K X : Type 0} → (test : K → Bool) (p : K × X → Bool) (es : List (K × X)) (i : ℕ) (e : K × X) → i < length es → e ≡ get_or es i e → p e ≡ true → test e.0 ≡ true → lookup test (filter p (drop i es)) ≡ Some e.1
lookup-filter_hits test p es i e h is kept found =
    at_drop_more (λ fs. lookup test (filter p fs)) es i e h
    ∙ ap (λ f. lookup test (filter p (f ∷ drop (i + 1) es))) (sym is)
    ∙ ap (λ b. lookup test (cond b (e ∷ filter p (drop (i + 1) es)) (filter p (drop (i + 1) es)))) kept
    ∙ ap (λ b. cond b (Some e.1) (lookup test (filter p (drop (i + 1) es)))) found

-- one more of those that pass both tests
pub listed-more : {E R : Type 0} → (f : E → R) (p q : E → Bool) (xs : List E) (i : ℕ) (e : E) (ys : List R) → i < length xs → e ≡ get_or xs i e → q e ≡ true → p e ≡ true
    → (ys ++ f e ∷ []) ++ map f (filter p (filter q (drop (i + 1) xs))) ≡ ys ++ map f (filter p (filter q (drop i xs)))
listed-more f p q xs i e ys h is kept passes =
    let rest = filter q (drop (i + 1) xs) in
    append_assoc ys (f e ∷ []) (map f (filter p rest))
    ∙ ap (λ zs. ys ++ zs) (sym (
    at_drop_more (λ zs. map f (filter p (filter q zs))) xs i e h
    ∙ ap (λ x. map f (filter p (filter q (x ∷ drop (i + 1) xs)))) (sym is)
    ∙ ap (λ b. map f (filter p (cond b (e ∷ rest) rest))) kept
    ∙ ap (λ b. map f (cond b (e ∷ filter p rest) (filter p rest))) passes))
