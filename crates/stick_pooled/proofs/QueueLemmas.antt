-- On a queue of distinct slots: what it has without a slot, and with one more at the back.
use Rattle.std.proofs.Common.{◌≡◌, ◌≢◌, ℕ, zero, suc, ◌<◌, ◌⊎◌, inl, inr, Bool, true, false, cond, eqb, List, [], ◌∷◌, ◌++◌, length, get_or, refl, sym, ap, subst, ◌∙◌, arith, not}
use Rattle.std.specs.Prelude.{◌↔◌}
use Rattle.std.specs.List.{AllByRecursion, IsDistinct, Contains}
use Rattle.std.proofs.lemmas.Bool.{eqb-false, eqb-true, eq-eqb, ne_eqb}
use Rattle.std.proofs.lemmas.List.Elements.{Contains-push, Contains-push_cases, Contains-append_left}
use Rattle.entry_pool.proofs.DistinctSlots.{Off, off_from_absent, distinct-push, distinct-head, eqb-flip}
use Rattle.expiry_order.specs.Queue.{without}
use Rattle.stick_pooled.specs.Stock.{entered}

-- one of these
abbrev Among : ℕ → List ℕ → Type 0
Among x [] = ⊥
Among x (y ∷ ys) = (x ≡ y) ⊎ Among x ys

among-from : (ys : List ℕ) (x : ℕ) → Contains ys x → Among x ys
among-from [] x h = absurd (omega (arith, h.1))
among-from (y ∷ ys) x h = by_index (λ later. among-from ys x later) h.0 h.1 h.2
  where
    by_index : (Contains ys x → Among x ys) → (k : ℕ) → k < length (y ∷ ys) → get_or (y ∷ ys) k x ≡ x → (x ≡ y) ⊎ Among x ys
    by_index on zero within is = inl (sym is)
    by_index on (suc k) within is = inr (on (k, omega arith, is))

contains-from : (ys : List ℕ) (x : ℕ) → Among x ys → Contains ys x
contains-from [] x h = absurd h
contains-from (y ∷ ys) x h = elim h [
  | inl same ↦ (0, omega arith, sym same)
  | inr later ↦ next (contains-from ys x later)
]
  where
    next : Contains ys x → Contains (y ∷ ys) x
    next h = (suc h.0, omega (arith, h.1), h.2)

among-without : (ys : List ℕ) (x slot : ℕ) → Among x (without ys slot) → Among x ys × (x ≢ slot)
among-without [] x slot h = absurd h
among-without (y ∷ ys) x slot h = by_test (among-without ys x slot) (eqb y slot) refl h
  where
    by_test : (Among x (without ys slot) → Among x ys × (x ≢ slot)) → (b : Bool) → eqb y slot ≡ b → Among x (cond (not b) (y ∷ without ys slot) (without ys slot)) → ((x ≡ y) ⊎ Among x ys) × (x ≢ slot)
    by_test on true is h = let more = on h in (inr more.0, more.1)
    by_test on false is h = elim h [
      | inl same ↦ (inl same, λ other. eqb-false y slot is (sym same ∙ other))
      | inr later ↦ later_on (on later)
    ]
      where
        later_on : Among x ys × (x ≢ slot) → ((x ≡ y) ⊎ Among x ys) × (x ≢ slot)
        later_on more = (inr more.0, more.1)

without-among : (ys : List ℕ) (x slot : ℕ) → Among x ys → x ≢ slot → Among x (without ys slot)
without-among [] x slot h apart = absurd h
without-among (y ∷ ys) x slot h apart = by_test (λ later. without-among ys x slot later apart) (eqb y slot) refl h
  where
    by_test : (Among x ys → Among x (without ys slot)) → (b : Bool) → eqb y slot ≡ b → (x ≡ y) ⊎ Among x ys → Among x (cond (not b) (y ∷ without ys slot) (without ys slot))
    by_test on true is h = elim h [
      | inl same ↦ absurd (apart (same ∙ eqb-true y slot is))
      | inr later ↦ on later
    ]
    by_test on false is h = elim h [
      | inl same ↦ inl same
      | inr later ↦ inr (on later)
    ]

pub in_without : (queue : List ℕ) (x slot : ℕ) → Contains (without queue slot) x → Contains queue x × (x ≢ slot)
in_without queue x slot h = let among = among-without queue x slot (among-from (without queue slot) x h) in (contains-from queue x among.0, among.1)

pub without_has : (queue : List ℕ) (x slot : ℕ) → Contains queue x → x ≢ slot → Contains (without queue slot) x
without_has queue x slot h apart = contains-from (without queue slot) x (without-among queue x slot (among-from queue x h) apart)

-- without a slot that isn't there
pub without_absent : (queue : List ℕ) (slot : ℕ) → ¬ (Contains queue slot) → without queue slot ≡ queue
without_absent [] slot absent = refl
without_absent (x ∷ xs) slot absent =
    let other : eqb x slot ≡ false = ne_eqb x slot (λ same. absent (0, omega arith, same)) in
    ap (λ b. cond (not b) (x ∷ without xs slot) (without xs slot)) other ∙ ap (λ l. x ∷ l) (without_absent xs slot (λ found. absent (suc found.0, omega (arith, found.1), found.2)))

all-without : (P : ℕ → Type 0) (queue : List ℕ) (slot : ℕ) → AllByRecursion P queue → AllByRecursion P (without queue slot)
all-without P [] slot h = tt
all-without P (x ∷ xs) slot h = elim (eqb x slot) as (λ b. AllByRecursion P (cond (not b) (x ∷ without xs slot) (without xs slot))) [ true ↦ all-without P xs slot h.1 | false ↦ (h.0, all-without P xs slot h.1) ]

pub distinct_without : (queue : List ℕ) (slot : ℕ) → IsDistinct eqb queue → IsDistinct eqb (without queue slot)
unfolding IsDistinct
distinct_without [] slot d = tt
distinct_without (x ∷ xs) slot d =
    elim (eqb x slot) as (λ b. IsDistinct eqb (cond (not b) (x ∷ without xs slot) (without xs slot))) [ true ↦ distinct_without xs slot d.1 | false ↦ (all-without (λ y. eqb x y ≡ false) xs slot d.0, distinct_without xs slot d.1) ]

-- ---- one slot more, at the back, where no reference holds its entry
pub distinct_entered : (queue : List ℕ) (slot refs : ℕ) → IsDistinct eqb queue → ¬ (Contains queue slot) → IsDistinct eqb (entered queue slot refs)
distinct_entered queue slot refs d absent =
    elim (eqb refs 0) as (λ b. IsDistinct eqb (cond b (queue ++ slot ∷ []) queue)) [ true ↦ distinct-push queue slot d (off_from_absent queue slot absent) | false ↦ d ]

pub in_entered : (queue : List ℕ) (slot refs : ℕ) → ¬ (Contains queue slot) → Contains (entered queue slot refs) slot → refs ≡ 0
in_entered queue slot refs absent h = by_test (eqb refs 0) refl h
  where
    by_test : (b : Bool) → eqb refs 0 ≡ b → Contains (cond b (queue ++ slot ∷ []) queue) slot → refs ≡ 0
    by_test true is h = eqb-true refs 0 is
    by_test false is h = absurd (absent h)

pub entered_has : (queue : List ℕ) (slot refs : ℕ) → refs ≡ 0 → Contains (entered queue slot refs) slot
entered_has queue slot refs none = subst (λ b. Contains (cond b (queue ++ slot ∷ []) queue) slot) (sym (eq-eqb refs 0 none)) (Contains-push queue slot)

pub entered_others : (queue : List ℕ) (slot refs other : ℕ) → other ≢ slot → Contains (entered queue slot refs) other ↔ Contains queue other
entered_others queue slot refs other apart = by_test (eqb refs 0)
  where
    by_test : (b : Bool) → Contains (cond b (queue ++ slot ∷ []) queue) other ↔ Contains queue other
    by_test true = ((λ h. elim (Contains-push_cases queue slot other h) [ inl there ↦ there | inr same ↦ absurd (apart (sym same)) ]), (λ h. Contains-append_left queue (slot ∷ []) other h))
    by_test false = ((λ h. h), (λ h. h))

-- ---- the front
without-off : (queue : List ℕ) (slot : ℕ) → Off slot queue → without queue slot ≡ queue
without-off [] slot off = refl
without-off (x ∷ xs) slot off = ap (λ b. cond (not b) (x ∷ without xs slot) (without xs slot)) (eqb-flip slot x off.0) ∙ ap (λ l. x ∷ l) (without-off xs slot off.1)

-- without its first slot a queue is its rest
pub without_front : (slot : ℕ) (queue : List ℕ) → IsDistinct eqb (slot ∷ queue) → without (slot ∷ queue) slot ≡ queue
without_front slot queue d = ap (λ b. cond (not b) (slot ∷ without queue slot) (without queue slot)) (eq-eqb slot slot refl) ∙ without-off queue slot (distinct-head slot queue d)
