-- Lists of distinct slots, cut at a slot.
use Rattle.std.proofs.Common.{◌≡◌, ℕ, zero, suc, ◌<◌, false, eqb, List, [], ◌∷◌, ◌++◌, length, get_or, sym, ap, arith, append_assoc}
use Rattle.std.proofs.lemmas.Bool.{eqb-false, ne_eqb}
use Rattle.std.specs.List.{AllByRecursion, IsDistinct, Contains}

-- the slot is none of these
abbrev pub Off : ℕ → List ℕ → Type 0
Off slot slots = AllByRecursion (λ other. eqb slot other ≡ false) slots

pub Off-append : (slot : ℕ) (xs ys : List ℕ) → Off slot xs → Off slot ys → Off slot (xs ++ ys)
Off-append slot [] ys p q = q
Off-append slot (x ∷ xs) ys p q = (p.0, Off-append slot xs ys p.1 q)

pub Off-cut : (slot : ℕ) (xs ys : List ℕ) → Off slot (xs ++ ys) → Off slot xs × Off slot ys
Off-cut slot [] ys p = (tt, p)
Off-cut slot (x ∷ xs) ys p = let on = Off-cut slot xs ys p.1 in ((p.0, on.0), on.1)

pub eqb-flip : (a b : ℕ) → eqb a b ≡ false → eqb b a ≡ false
eqb-flip a b p = ne_eqb b a (λ same. eqb-false a b p (sym same))

-- a slot is cut out of the list that has it
pub record Cut (slots : List ℕ) (slot : ℕ) : Type 0 where
  pub front : List ℕ
  pub back : List ℕ
  pub is : slots ≡ front ++ slot ∷ back

pub cut_at : (slots : List ℕ) (slot : ℕ) → Contains slots slot → Cut slots slot
cut_at [] slot found = absurd (omega (arith, found.1))
cut_at (x ∷ xs) slot found = by_index (λ later. cut_at xs slot later) found.0 found.1 found.2
  where
    by_index : (Contains xs slot → Cut xs slot) → (k : ℕ) → k < length (x ∷ xs) → get_or (x ∷ xs) k slot ≡ slot → Cut (x ∷ xs) slot
    by_index on zero within is = record { front = []; back = xs; is = ap (λ y. y ∷ xs) is }
    by_index on (suc k) within is =
        let cut = on (k, omega arith, is) in
        record { front = x ∷ cut.front; back = cut.back; is = ap (λ l. x ∷ l) cut.is }

pub off_from_absent : (slots : List ℕ) (slot : ℕ) → (Contains slots slot → ⊥) → Off slot slots
off_from_absent [] slot absent = tt
off_from_absent (x ∷ xs) slot absent = (
  ne_eqb slot x (λ same. absent (0, omega arith, sym same)),
  off_from_absent xs slot (λ found. absent (suc found.0, omega (arith, found.1), found.2)),
)

pub distinct-push : (slots : List ℕ) (slot : ℕ) → IsDistinct eqb slots → Off slot slots → IsDistinct eqb (slots ++ slot ∷ [])
unfolding IsDistinct
distinct-push [] slot d off = (tt, tt)
distinct-push (x ∷ xs) slot d off =
    (Off-append x xs (slot ∷ []) d.0 (eqb-flip slot x off.0, tt), distinct-push xs slot d.1 off.1)

-- the slot is none of those before it and behind it, and these are distinct
pub record Apart (front back : List ℕ) (slot : ℕ) : Type 0 where
  pub before : Off slot front
  pub behind : Off slot back
  pub rest : IsDistinct eqb (front ++ back)

pub distinct-cut : (front back : List ℕ) (slot : ℕ) → IsDistinct eqb (front ++ slot ∷ back) → Apart front back slot
unfolding IsDistinct
distinct-cut [] back slot d = record { before = tt; behind = d.0; rest = d.1 }
distinct-cut (x ∷ front) back slot d =
    let on = distinct-cut front back slot d.1 in
    let offs = Off-cut x front (slot ∷ back) d.0 in
    record {
      before = (eqb-flip x slot offs.1.0, on.before);
      behind = on.behind;
      rest = (Off-append x front back offs.0 offs.1.1, on.rest);
    }

pub distinct-last : (front back : List ℕ) (slot : ℕ) → IsDistinct eqb ((front ++ slot ∷ []) ++ back) → Apart front back slot
distinct-last front back slot d = distinct-cut front back slot (rw append_assoc at d)

pub distinct-front : (front back : List ℕ) → IsDistinct eqb (front ++ back) → IsDistinct eqb front
unfolding IsDistinct
distinct-front [] back d = tt
distinct-front (x ∷ front) back d = ((Off-cut x front back d.0).0, distinct-front front back d.1)

pub distinct-back : (front back : List ℕ) → IsDistinct eqb (front ++ back) → IsDistinct eqb back
unfolding IsDistinct
distinct-back [] back d = d
distinct-back (x ∷ front) back d = distinct-back front back d.1

pub distinct-head : (slot : ℕ) (back : List ℕ) → IsDistinct eqb (slot ∷ back) → Off slot back
unfolding IsDistinct
distinct-head slot back d = d.0

pub distinct-none : IsDistinct eqb []
unfolding IsDistinct
distinct-none = tt
