-- What is held without the first reference, and with it again.
use Rattle.std.proofs.Common.{◌≡◌, ℕ, ◌≤◌, zero, suc, ◌+◌, refl, ap, ◌∙◌, subst, arith, List, [], ◌∷◌, drop, length, slice_get, Option, Some, None}
use Rattle.rule_model.specs.declared.actions.Slot.{Slot}
use Rattle.rule_model.specs.declared.actions.Slot.TheVariants.{Sc0, Sc1, Sc2}
use Rattle.admit_core.specs.Held.{held_at, held_with, holding, holding_of}
use Rattle.admit_core.specs.declared.held.Held.{Held}

-- a slot holds a reference; without that the rest hold theirs, and with another in its place all do
pub record IsTaken {R : Type 0} (held : Held R) (slot : Slot) (rest : List Slot) : Type 0 where
  pub entry : ℕ × R
  pub at : held_at held slot ≡ Some entry
  pub less : holding (held_with held slot None) ≡ rest
  pub back : (other : ℕ × R) → holding (held_with (held_with held slot None) slot (Some other)) ≡ slot ∷ rest

head_of : (a b : Slot) (xs ys : List Slot) → a ∷ xs ≡ b ∷ ys → a ≡ b
head_of a b xs ys e = cc

tail_of : (a b : Slot) (xs ys : List Slot) → a ∷ xs ≡ b ∷ ys → xs ≡ ys
tail_of a b xs ys e = cc

of_first : {R : Type 0} (held : Held R) (a b : Slot) (xs ys : List Slot) → a ∷ xs ≡ b ∷ ys → IsTaken held a xs → IsTaken held b ys
of_first held a b xs ys e taken = subst (λ zs. IsTaken held b zs) (tail_of a b xs ys e) (subst (λ s. IsTaken held s xs) (head_of a b xs ys e) taken)

by_slots : {R : Type 0} (x y z : Option (ℕ × R)) (slot : Slot) (rest : List Slot) → holding (record { sc0 = x; sc1 = y; sc2 = z }) ≡ slot ∷ rest → IsTaken (record { sc0 = x; sc1 = y; sc2 = z }) slot rest
by_slots (Some entry) y z slot rest is = of_first _ Sc0 slot (holding_of (record { sc0 = Some entry; sc1 = y; sc2 = z }) (Sc1 ∷ Sc2 ∷ [])) rest is (record { entry = entry; at = refl; less = refl; back = λ other. refl })
by_slots None (Some entry) z slot rest is = of_first _ Sc1 slot (holding_of (record { sc0 = None; sc1 = Some entry; sc2 = z }) (Sc2 ∷ [])) rest is (record { entry = entry; at = refl; less = refl; back = λ other. refl })
by_slots None None (Some entry) slot rest is = of_first _ Sc2 slot [] rest is (record { entry = entry; at = refl; less = refl; back = λ other. refl })
by_slots None None None slot rest is = cc

pub first_taken : {R : Type 0} (held : Held R) (slot : Slot) (rest : List Slot) → holding held ≡ slot ∷ rest → IsTaken held slot rest
first_taken held slot rest is = by_slots held.sc0 held.sc1 held.sc2 slot rest is

-- ---- a cursor over a list

drop_next : {X : Type 0} (xs : List X) (k : ℕ) (x : X) → slice_get xs k ≡ Some x → drop k xs ≡ x ∷ drop (suc k) xs
drop_next [] k x at = cc
drop_next (y ∷ ys) zero x at = let same : y ≡ x = cc in ap (λ z. z ∷ ys) same
drop_next (y ∷ ys) (suc k) x at = drop_next ys k x at

pub drop_one : {X : Type 0} (xs : List X) (k : ℕ) (x : X) → slice_get xs k ≡ Some x → drop k xs ≡ x ∷ drop (k + 1) xs
drop_one xs k x at = let next : suc k ≡ k + 1 = omega arith in drop_next xs k x at ∙ ap (λ j. x ∷ drop j xs) next

pub past : {X : Type 0} (xs : List X) (k : ℕ) → slice_get xs k ≡ None → length xs ≤ k
past [] k at = omega arith
past (y ∷ ys) zero at = cc
past (y ∷ ys) (suc k) at = let rest : length ys ≤ k = past ys k at in omega arith
