-- What the tickets of a legal state keep.
use Rattle.stick_model.proofs.TestLemmas.{and-left, and-right, lt-from}
use Rattle.stick_model.proofs.RecordLemmas.{later-stamps, differs_above}
use Rattle.std.proofs.Common.{◌≡◌, ℕ, ◌+◌, ◌≤◌, ◌<◌, refl, arith, List, [], ◌∷◌, ◌++◌, map, filter, Bool, true, false, not, ◌&&◌, nat_eq, nat_lt}
use Rattle.std.specs.List.{AllByRecursion, IsDistinct}
use Rattle.std.proofs.lemmas.Bool.{false≢true}
use Rattle.stick_model.specs.Key.{Key}
use Rattle.stick_model.specs.State.{is_free}
use Rattle.stick_model.specs.Legal.{number_in, slot_in}
use Rattle.stick_model.specs.declared.rows.Ticket.{Ticket}
use Rattle.stick_model.proofs.EntryLemmas.{Differs, all-filter, distinct-filter, all-push, distinct-push}
use Rattle.stick_model.proofs.StepLemmas.{AllByRecursion-implies}

-- ---- the tickets of a legal state
pub record AreNumbered (max_refs n : ℕ) (tickets : List (Ticket × Key)) : Type 0 where
  pub numbers_differ : IsDistinct nat_eq (map number_in tickets)
  pub numbers_past : AllByRecursion (λ m. m ≤ n) (map number_in tickets)
  pub slots_differ : IsDistinct nat_eq (map slot_in tickets)
  pub slots_below : AllByRecursion (λ slot. slot < max_refs) (map slot_in tickets)

pub numbered-later : (max_refs n : ℕ) (tickets : List (Ticket × Key)) → AreNumbered max_refs n tickets → AreNumbered max_refs (n + 1) tickets
numbered-later max_refs n tickets numbered = record {
  numbers_differ = numbered.numbers_differ;
  numbers_past = later-stamps n (n + 1) (map number_in tickets) (omega arith) numbered.numbers_past;
  slots_differ = numbered.slots_differ;
  slots_below = numbered.slots_below;
}

pub numbered-fewer : (max_refs n : ℕ) (tickets : List (Ticket × Key)) (q : Ticket × Key → Bool) → AreNumbered max_refs n tickets → AreNumbered max_refs n (filter q tickets)
numbered-fewer max_refs n tickets q numbered = record {
  numbers_differ = distinct-filter number_in nat_eq q tickets numbered.numbers_differ;
  numbers_past = all-filter number_in (λ m. m ≤ n) q tickets numbered.numbers_past;
  slots_differ = distinct-filter slot_in nat_eq q tickets numbered.slots_differ;
  slots_below = all-filter slot_in (λ slot. slot < max_refs) q tickets numbered.slots_below;
}

second_differs : (x : ℕ) (ys : List ℕ) → Differs nat_eq x ys → AllByRecursion (λ y. nat_eq y x ≡ false) ys
second_differs x ys h = AllByRecursion-implies (λ y. (nat_eq x y ≡ false) × (nat_eq y x ≡ false)) (λ y. nat_eq y x ≡ false) (λ y d. d.1) ys h

free_differs : (slot : ℕ) (tickets : List (Ticket × Key)) → is_free slot tickets ≡ true → AllByRecursion (λ y. nat_eq y slot ≡ false) (map slot_in tickets)
free_differs slot [] free = tt
free_differs slot (held ∷ tickets) free =
    elim (nat_eq held.0.slot slot) as (λ b. nat_eq held.0.slot slot ≡ b → not b && is_free slot tickets ≡ true → AllByRecursion (λ y. nat_eq y slot ≡ false) (map slot_in (held ∷ tickets))) [
      | true ↦ λ _ none. absurd (false≢true none)
      | false ↦ λ is rest. (is, free_differs slot tickets rest)
    ] refl free

pub numbered-more : (max_refs n slot : ℕ) (key : Key) (tickets : List (Ticket × Key)) → nat_lt slot max_refs && is_free slot tickets ≡ true → AreNumbered max_refs n tickets → AreNumbered max_refs (n + 1) (tickets ++ (record { number = n + 1; slot = slot }, key) ∷ [])
numbered-more max_refs n slot key tickets free numbered =
    let ticket : Ticket = record { number = n + 1; slot = slot } in
    let held : Ticket × Key = (ticket, key) in
    record {
      numbers_differ = distinct-push number_in nat_eq tickets held numbered.numbers_differ (second_differs (n + 1) (map number_in tickets) (differs_above n (map number_in tickets) numbered.numbers_past));
      numbers_past = all-push number_in (λ m. m ≤ n + 1) tickets held (later-stamps n (n + 1) (map number_in tickets) (omega arith) numbered.numbers_past) (omega arith);
      slots_differ = distinct-push slot_in nat_eq tickets held numbered.slots_differ (free_differs slot tickets (and-right (nat_lt slot max_refs) (is_free slot tickets) free));
      slots_below = all-push slot_in (λ slot. slot < max_refs) tickets held numbered.slots_below (lt-from slot max_refs (and-left (nat_lt slot max_refs) (is_free slot tickets) free));
    }
