-- What is left of a list of distinct slots without one of them, and what follows it.
use Rattle.std.proofs.Common.{◌≡◌, ℕ, List, [], ◌∷◌, ◌++◌, slice_get, refl, ap}
use Rattle.std.proofs.lemmas.Bool.{eq-eqb}
use Rattle.entry_pool.proofs.DistinctSlots.{Off, eqb-flip}
use Rattle.expiry_order.specs.Queue.{slot_after, without}

without-off : (slots : List ℕ) (slot : ℕ) → Off slot slots → without slots slot ≡ slots
without-off [] slot off = refl
without-off (x ∷ xs) slot off = rw (eqb-flip slot x off.0) (ap (λ l. x ∷ l) (without-off xs slot off.1))

pub without-cut : (front back : List ℕ) (slot : ℕ) → Off slot front → Off slot back → without (front ++ slot ∷ back) slot ≡ front ++ back
without-cut [] back slot p q = rw (eq-eqb slot slot refl) (without-off back slot q)
without-cut (x ∷ front) back slot p q = rw (eqb-flip slot x p.0) (ap (λ l. x ∷ l) (without-cut front back slot p.1 q))

pub slot_after-cut : (front back : List ℕ) (slot : ℕ) → Off slot front → slot_after (front ++ slot ∷ back) slot ≡ slice_get back 0
slot_after-cut [] back slot p = rw (eq-eqb slot slot refl) refl
slot_after-cut (x ∷ front) back slot p = rw (eqb-flip slot x p.0) (slot_after-cut front back slot p.1)
