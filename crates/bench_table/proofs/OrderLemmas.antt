-- Orders that have every slot below a number.
use Rattle.std.proofs.Common.{◌≡◌, ◌≢◌, inl, inr, ℕ, zero, suc, ◌+◌, ◌<◌, Bool, true, false, eqb, not, ◌||◌, cond, List, [], ◌∷◌, ◌++◌, length, get_or, refl, sym, ◌∙◌, subst, arith}
use Rattle.std.proofs.lemmas.Bool.{eqb-true, eqb-false}
use Rattle.std.proofs.lemmas.List.Elements.{Contains-append_left, Contains-push, Contains-push_cases}
use Rattle.std.proofs.Permutation.{which}
use Rattle.std.specs.List.{Contains, list_any}
use Rattle.std.proofs.lemmas.Map.Views.{Contains-from_any}
use Rattle.expiry_order.specs.Queue.{Queue, queue, without}

-- the order has the slots below this number, and no other
pub record IsFilled (order : Queue) (capacity count : ℕ) : Type 0 where
  pub sized : order.capacity ≡ capacity
  pub below : (slot : ℕ) → Contains order.slots slot → slot < count
  pub full : (slot : ℕ) → slot < count → Contains order.slots slot

pub filled_more : (order : Queue) (capacity count : ℕ) → IsFilled order capacity count → IsFilled (queue order.capacity (order.slots ++ count ∷ [])) capacity (count + 1)
filled_more order capacity count filled = record {
  sized = filled.sized;
  below = λ slot there. elim (Contains-push_cases order.slots count slot there) [
    | inl before ↦ (let old = filled.below slot before in omega arith)
    | inr same ↦ omega (arith, same)
  ];
  full = λ slot within. elim (which slot count) [
    | inl same ↦ subst (λ s. Contains (order.slots ++ count ∷ []) s) (sym same) (Contains-push order.slots count)
    | inr other ↦ Contains-append_left order.slots (count ∷ []) slot (filled.full slot (omega (arith, other)))
  ];
}

pub absent_without : (slots : List ℕ) (slot : ℕ) → Contains (without slots slot) slot → ⊥
absent_without [] slot found = omega (arith, found.1)
absent_without (x ∷ slots) slot found = by_test (λ later. absent_without slots slot later) (eqb x slot) refl found
  where
    by_test : (Contains (without slots slot) slot → ⊥) → (b : Bool) → eqb x slot ≡ b → Contains (cond (not b) (x ∷ without slots slot) (without slots slot)) slot → ⊥
    by_test on true same found = on found
    by_test on false other found = by_index found.0 found.1 found.2
      where
        by_index : (k : ℕ) → k < length (x ∷ without slots slot) → get_or (x ∷ without slots slot) k slot ≡ slot → ⊥
        by_index zero inside is = eqb-false x slot other is
        by_index (suc k) inside is = on (k, omega arith, is)

others_stay : (slots : List ℕ) (slot other : ℕ) → other ≢ slot → Contains slots other → Contains (without slots slot) other
others_stay [] slot other apart found = absurd (omega (arith, found.1))
others_stay (x ∷ slots) slot other apart found = by_test (λ later. others_stay slots slot other apart later) (eqb x slot) refl found.0 found.1 found.2
  where
    by_test : (Contains slots other → Contains (without slots slot) other) → (b : Bool) → eqb x slot ≡ b → (k : ℕ) → k < length (x ∷ slots) → get_or (x ∷ slots) k other ≡ other
        → Contains (cond (not b) (x ∷ without slots slot) (without slots slot)) other
    by_test on true same zero inside is = absurd (apart (sym is ∙ eqb-true x slot same))
    by_test on true same (suc k) inside is = on (k, omega arith, is)
    by_test on false differs zero inside is = (0, omega arith, is)
    by_test on false differs (suc k) inside is = let later = on (k, omega arith, is) in (suc later.0, omega (arith, later.1), later.2)

-- a slot that moves to the back leaves no slot out
moved_stays : (slots : List ℕ) (slot other : ℕ) → Contains slots other → Contains (without slots slot ++ slot ∷ []) other
moved_stays slots slot other found = elim (which other slot) [
  | inl same ↦ subst (λ s. Contains (without slots slot ++ slot ∷ []) s) (sym same) (Contains-push (without slots slot) slot)
  | inr apart ↦ Contains-append_left (without slots slot) (slot ∷ []) other (others_stay slots slot other apart found)
]

any_from : (slots : List ℕ) (slot : ℕ) → Contains slots slot → list_any (eqb slot) slots ≡ true
any_from [] slot found = absurd (omega (arith, found.1))
any_from (x ∷ slots) slot found = by_test (λ later. any_from slots slot later) (eqb slot x) refl found.0 found.1 found.2
  where
    by_test : (Contains slots slot → list_any (eqb slot) slots ≡ true) → (b : Bool) → eqb slot x ≡ b → (k : ℕ) → k < length (x ∷ slots) → get_or (x ∷ slots) k slot ≡ slot
        → (b || list_any (eqb slot) slots) ≡ true
    by_test on true same k inside is = refl
    by_test on false differs zero inside is = absurd (eqb-false slot x differs (sym is))
    by_test on false differs (suc k) inside is = on (k, omega arith, is)

-- as the struct says it
pub any_filled : (order : Queue) (capacity count slot : ℕ) → IsFilled order capacity count → slot < count → list_any (eqb slot) order.slots ≡ true
any_filled order capacity count slot filled within = any_from order.slots slot (filled.full slot within)

pub contains_from : (slots : List ℕ) (slot : ℕ) → list_any (eqb slot) slots ≡ true → Contains slots slot
contains_from slots slot there = Contains-from_any eqb-true slot slots there

pub moved_any : (slots : List ℕ) (slot other : ℕ) → list_any (eqb other) slots ≡ true → list_any (eqb other) (without slots slot ++ slot ∷ []) ≡ true
moved_any slots slot other there = any_from (without slots slot ++ slot ∷ []) other (moved_stays slots slot other (contains_from slots other there))

pub empty_filled : (capacity : ℕ) → IsFilled (queue capacity []) capacity 0
empty_filled capacity = record {
  sized = refl;
  below = λ slot there. absurd (omega (arith, there.1));
  full = λ slot below. absurd (omega arith);
}
