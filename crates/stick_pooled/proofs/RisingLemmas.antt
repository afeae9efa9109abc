-- What rises along a queue, where one slot leaves it or comes to its back.
use Rattle.std.proofs.Common.{◌≡◌, ◌≢◌, ℕ, suc, ◌<◌, ◌≤◌, refl, sym, subst, arith, List, [], ◌∷◌, ◌++◌, Bool, true, false, cond, not, eqb, Option}
use Rattle.std.specs.List.{AllByRecursion, Contains}
use Rattle.std.specs.Option.{option_map_or}
use Rattle.std.proofs.lemmas.Bool.{eqb-false}
use Rattle.expiry_order.specs.Queue.{without}
use Rattle.stick_pooled.specs.Stock.{Held, Stock, held_at, entered}
use Rattle.stick_pooled.specs.Shown.{stamp_at, moment_at, IsRising}

abbrev IsBefore : Stock → ℕ → ℕ → Type 0
IsBefore s x y = (stamp_at s x < stamp_at s y) × (moment_at s x ≤ moment_at s y)

all-fewer : (P : ℕ → Type 0) (slot : ℕ) (ys : List ℕ) → AllByRecursion P ys → AllByRecursion P (without ys slot)
all-fewer P slot [] h = tt
all-fewer P slot (y ∷ ys) h = elim (eqb y slot) as (λ b. AllByRecursion P (cond (not b) (y ∷ without ys slot) (without ys slot))) [ true ↦ all-fewer P slot ys h.1 | false ↦ (h.0, all-fewer P slot ys h.1) ]

pub rising-fewer : (s : Stock) (slot : ℕ) (ys : List ℕ) → IsRising s ys → IsRising s (without ys slot)
rising-fewer s slot [] h = tt
rising-fewer s slot (y ∷ ys) h =
    elim (eqb y slot) as (λ b. IsRising s (cond (not b) (y ∷ without ys slot) (without ys slot))) [
      | true ↦ rising-fewer s slot ys h.1
      | false ↦ (all-fewer (λ other. IsBefore s y other) slot ys h.0, rising-fewer s slot ys h.1)
    ]

-- the slots without one are others
pub others-left : (slot : ℕ) (ys : List ℕ) → AllByRecursion (λ y. y ≢ slot) (without ys slot)
others-left slot [] = tt
others-left slot (y ∷ ys) = go (others-left slot ys) (eqb y slot) refl
  where
    go : AllByRecursion (λ y. y ≢ slot) (without ys slot) → (b : Bool) → eqb y slot ≡ b → AllByRecursion (λ y. y ≢ slot) (cond (not b) (y ∷ without ys slot) (without ys slot))
    go rest true is = rest
    go rest false is = (eqb-false y slot is, rest)

-- so are those of a list that doesn't have it
pub others-absent : (slot : ℕ) (ys : List ℕ) → ¬ (Contains ys slot) → AllByRecursion (λ y. y ≢ slot) ys
others-absent slot [] absent = tt
others-absent slot (y ∷ ys) absent = ((λ same. absent (0, omega arith, same)), others-absent slot ys (λ found. absent (suc found.0, omega (arith, found.1), found.2)))

module _ (s new : Stock) (slot : ℕ) (same : (j : ℕ) → j ≢ slot → held_at new j ≡ held_at s j) where
  before-moved : (x y : ℕ) → x ≢ slot → y ≢ slot → IsBefore s x y → IsBefore new x y
  before-moved x y x_off y_off h = subst (λ (p : Option Held × Option Held). (option_map_or (λ (held : Held). held.entry.stamp) p.0 0 < option_map_or (λ (held : Held). held.entry.stamp) p.1 0) × (option_map_or (λ (held : Held). held.entry.moment) p.0 0 ≤ option_map_or (λ (held : Held). held.entry.moment) p.1 0))
      (λ i. (sym (same x x_off) i, sym (same y y_off) i)) h

  all-moved : (x : ℕ) → x ≢ slot → (ys : List ℕ) → AllByRecursion (λ y. y ≢ slot) ys → AllByRecursion (λ y. IsBefore s x y) ys → AllByRecursion (λ y. IsBefore new x y) ys
  all-moved x x_off [] off h = tt
  all-moved x x_off (y ∷ ys) off h = (before-moved x y x_off off.0 h.0, all-moved x x_off ys off.1 h.1)

  rising-moved : (ys : List ℕ) → AllByRecursion (λ y. y ≢ slot) ys → IsRising s ys → IsRising new ys
  rising-moved [] off h = tt
  rising-moved (y ∷ ys) off h = (all-moved y off.0 ys off.1 h.0, rising-moved ys off.1 h.1)

  -- one more at the back, later than all
  all-back : (x : ℕ) (ys : List ℕ) → AllByRecursion (λ y. IsBefore new x y) ys → IsBefore new x slot → AllByRecursion (λ y. IsBefore new x y) (ys ++ slot ∷ [])
  all-back x [] h last = (last, tt)
  all-back x (y ∷ ys) h last = (h.0, all-back x ys h.1 last)

  rising-back : (ys : List ℕ) → IsRising new ys → AllByRecursion (λ y. IsBefore new y slot) ys → IsRising new (ys ++ slot ∷ [])
  rising-back [] h last = (tt, tt)
  rising-back (y ∷ ys) h last = (all-back y ys h.0 last.0, rising-back ys h.1 last.1)

  module _ (later : (j : ℕ) → (stamp_at s j < stamp_at new slot) × (moment_at s j ≤ moment_at new slot)) where
    last-of-all : (ys : List ℕ) → AllByRecursion (λ y. y ≢ slot) ys → AllByRecursion (λ y. IsBefore new y slot) ys
    last-of-all [] off = tt
    last-of-all (y ∷ ys) off = (
      subst (λ (o : Option Held). (option_map_or (λ (held : Held). held.entry.stamp) o 0 < stamp_at new slot) × (option_map_or (λ (held : Held). held.entry.moment) o 0 ≤ moment_at new slot)) (sym (same y off.0)) (later y),
      last-of-all ys off.1,
    )

    -- a slot that is written comes to the back, or not at all
    pub rising-entered : (ys : List ℕ) (refs : ℕ) → AllByRecursion (λ y. y ≢ slot) ys → IsRising s ys → IsRising new (entered ys slot refs)
    rising-entered ys refs off h =
        elim (eqb refs 0) as (λ b. IsRising new (cond b (ys ++ slot ∷ []) ys)) [
          | true ↦ rising-back ys (rising-moved ys off h) (last-of-all ys off)
          | false ↦ rising-moved ys off h
        ]
