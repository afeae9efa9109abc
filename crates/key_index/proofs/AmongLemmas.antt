-- Slots among others in a list.
use Rattle.std.proofs.Common.{◌≡◌, ◌≢◌, ◌⊎◌, inl, inr, ℕ, ◌||◌, Bool, true, false, true≢false, eqb, List, [], ◌∷◌, ◌++◌, refl, sym, ap, subst}
use Rattle.std.proofs.lemmas.Bool.{eqb-true, eqb-false, ne_eqb}
use Rattle.std.specs.List.{IsDistinct, list_any}
use Rattle.entry_pool.proofs.DistinctSlots.{Off, Cut}
use Rattle.key_index.specs.Chains.{IsAmong}

pub off_from_not_among : (slot : ℕ) (slots : List ℕ) → (IsAmong slot slots → ⊥) → Off slot slots
off_from_not_among slot [] not_in = tt
off_from_not_among slot (s ∷ slots) not_in = (ne_eqb slot s (λ same. not_in (inl same)), off_from_not_among slot slots (λ there. not_in (inr there)))

pub cut_among : (slot : ℕ) (slots : List ℕ) → IsAmong slot slots → Cut slots slot
cut_among slot [] there = absurd there
cut_among slot (s ∷ slots) there = by_case (λ later. cut_among slot slots later) there
  where
    by_case : (IsAmong slot slots → Cut slots slot) → (slot ≡ s) ⊎ IsAmong slot slots → Cut (s ∷ slots) slot
    by_case on (inl same) = record { front = []; back = slots; is = ap (λ k. k ∷ slots) (sym same) }
    by_case on (inr later) = let cut = on later in record { front = s ∷ cut.front; back = cut.back; is = ap (λ l. s ∷ l) cut.is }

pub among_at : (front : List ℕ) (slot : ℕ) (back : List ℕ) → IsAmong slot (front ++ slot ∷ back)
among_at [] slot back = inl refl
among_at (x ∷ front) slot back = inr (among_at front slot back)

pub among_any : (slot : ℕ) (slots : List ℕ) → list_any (eqb slot) slots ≡ true → IsAmong slot slots
among_any slot [] there = absurd (true≢false (sym there))
among_any slot (s ∷ slots) there = by_test (λ later. among_any slot slots later) (eqb slot s) refl there
  where
    by_test : (list_any (eqb slot) slots ≡ true → IsAmong slot slots) → (b : Bool) → eqb slot s ≡ b → (b || list_any (eqb slot) slots) ≡ true → (slot ≡ s) ⊎ IsAmong slot slots
    by_test on true same there = inl (eqb-true slot s same)
    by_test on false other there = inr (on there)

-- one that is there and is not the one left out is still there
pub among_rest : (slot out : ℕ) (front back : List ℕ) → IsAmong slot (front ++ out ∷ back) → slot ≢ out → IsAmong slot (front ++ back)
among_rest slot out [] back there other = elim there [ inl same ↦ absurd (other same) | inr later ↦ later ]
among_rest slot out (x ∷ front) back there other = elim there [ inl same ↦ inl same | inr later ↦ inr (among_rest slot out front back later other) ]

-- one of the rest is one of all
pub among_all : (slot out : ℕ) (front back : List ℕ) → IsAmong slot (front ++ back) → IsAmong slot (front ++ out ∷ back)
among_all slot out [] back there = inr there
among_all slot out (x ∷ front) back there = elim there [ inl same ↦ inl same | inr later ↦ inr (among_all slot out front back later) ]

pub distinct-tail : (s : ℕ) (slots : List ℕ) → IsDistinct eqb (s ∷ slots) → IsDistinct eqb slots
unfolding IsDistinct
distinct-tail s slots d = d.1

pub distinct-cons : (s : ℕ) (slots : List ℕ) → Off s slots → IsDistinct eqb slots → IsDistinct eqb (s ∷ slots)
unfolding IsDistinct
distinct-cons s slots off d = (off, d)

among_off : (slot : ℕ) (slots : List ℕ) → Off slot slots → IsAmong slot slots → ⊥
among_off slot [] off there = there
among_off slot (s ∷ slots) off there = elim there [ inl same ↦ eqb-false slot s off.0 same | inr later ↦ among_off slot slots off.1 later ]

-- a slot among others is not one that is none of these
pub apart_from : (out q : ℕ) (slots : List ℕ) → Off out slots → IsAmong q slots → q ≢ out
apart_from out q slots off there = λ e. among_off out slots off (subst (λ k. IsAmong k slots) e there)
