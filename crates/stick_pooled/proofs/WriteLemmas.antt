-- What a table keeps where an event writes one slot.
use Rattle.std.proofs.Common.{◌≡◌, ◌≢◌, ℕ, ◌+◌, ◌≤◌, ◌⊎◌, inl, inr, refl, sym, ◌∙◌, ap, subst, arith, List, [], ◌∷◌, length, map, Option, Some, None, is_some, IsSome}
use Rattle.std.specs.Prelude.{nat_eq}
use Rattle.std.specs.List.{AllByRecursion, IsDistinct}
use Rattle.std.specs.Option.{option_map_or}
use Rattle.std.proofs.lemmas.Bool.{cases_eq, true≢false}
use Rattle.stick_pooled.specs.Stock.{Held, Stock, IsStock, held_at, key_in}
use Rattle.stick_pooled.proofs.StockLemmas.{same_some}
use Rattle.stick_pooled.specs.Tickets.{Tickets}
use Rattle.stick_table.specs.Invariant.{IsBounded}
use Rattle.stick_model.specs.Key.{Key}
use Rattle.stick_model.specs.State.{refs}
use Rattle.stick_model.specs.declared.rows.Ticket.{Ticket}
use Rattle.stick_model.specs.declared.specification.Spec.{Spec}
use Rattle.stick_pooled.specs.Shown.{stamp_at, moment_at, IsRising}
use Rattle.stick_pooled.specs.Table.{with_key, number_of, tickets_of, IsTable}

-- the tickets that are out once the event is counted: each names an entry, and has a number of its own
pub record AreNext (spec : Spec) (clock events : ℕ) (new : Stock) (later : Tickets) : Type 0 where
  pub bounded : IsBounded spec clock events (tickets_of new later)
  pub held : AllByRecursion (λ (t : Ticket × ℕ). IsSome (held_at new t.1)) later.tickets
  pub numbered : IsDistinct nat_eq (map number_of later.tickets)
  pub issued : AllByRecursion (λ number. number ≤ events) (map number_of later.tickets)
  pub newest : later.newest ≤ events
  pub capacity : later.capacity ≡ spec.max_refs

-- what was refreshed was so in the past
pub stamps-past : (s : Stock) (clock events : ℕ) → ((slot : ℕ) (held : Held) → held_at s slot ≡ Some held → (held.entry.stamp ≤ events) × (held.entry.moment ≤ clock)) → (j : ℕ) → (stamp_at s j ≤ events) × (moment_at s j ≤ clock)
stamps-past s clock events past j = go (held_at s j) refl
  where
    go : (o : Option Held) → held_at s j ≡ o → (option_map_or (λ (held : Held). held.entry.stamp) o 0 ≤ events) × (option_map_or (λ (held : Held). held.entry.moment) o 0 ≤ clock)
    go None is = (omega arith, omega arith)
    go (Some h) is = past j h is

-- the slot has this entry now, of the key that it had if it had one, and the others have what they had
pub record IsWritten (s new : Stock) (slot : ℕ) (h : Held) : Type 0 where
  pub here : held_at new slot ≡ Some h
  pub same : (j : ℕ) → j ≢ slot → held_at new j ≡ held_at s j
  pub keyed : (g : Held) → held_at s slot ≡ Some g → h.key ≡ g.key

-- an entry that was there is there, under its key
pub record IsThere (new : Stock) (j : ℕ) (key : Key) : Type 0 where
  pub held : Held
  pub there : held_at new j ≡ Some held
  pub keyed : held.key ≡ key

module _ (s new : Stock) (slot : ℕ) (h : Held) (w : IsWritten s new slot h) where
  still-there : (j : ℕ) (g : Held) → held_at s j ≡ Some g → IsThere new j g.key
  still-there j g there = by_place (cases_eq j slot)
    where
      by_place : (j ≡ slot) ⊎ (j ≢ slot) → IsThere new j g.key
      by_place (inl one) = record { held = h; there = ap (held_at new) one ∙ w.here; keyed = w.keyed g (ap (held_at s) (sym one) ∙ there) }
      by_place (inr apart) = record { held = g; there = w.same j apart ∙ there; keyed = refl }

  same-key-at : (j : ℕ) (o : Option Held) → held_at s j ≡ o → IsSome o → (key_in (held_at new j) ≡ key_in (held_at s j)) × IsSome (held_at new j)
  same-key-at j None is some = absurd (true≢false (sym some))
  same-key-at j (Some g) is some = let f = still-there j g is in (ap key_in f.there ∙ f.keyed ∙ sym (ap key_in is), ap is_some f.there)

  -- tickets that had an entry have one of the same key
  pub tickets-written : (bt : List (Ticket × ℕ)) → AllByRecursion (λ (t : Ticket × ℕ). IsSome (held_at s t.1)) bt → map (with_key new) bt ≡ map (with_key s) bt
  tickets-written [] held = refl
  tickets-written (t ∷ bt) held =
      ap (λ key. (t.0, key) ∷ map (with_key new) bt) (same-key-at t.1 (held_at s t.1) refl held.0).0 ∙ ap (λ ts. with_key s t ∷ ts) (tickets-written bt held.1)

  pub held-written : (bt : List (Ticket × ℕ)) → AllByRecursion (λ (t : Ticket × ℕ). IsSome (held_at s t.1)) bt → AllByRecursion (λ (t : Ticket × ℕ). IsSome (held_at new t.1)) bt
  held-written [] held = tt
  held-written (t ∷ bt) held = ((same-key-at t.1 (held_at s t.1) refl held.0).1, held-written bt held.1)

  module _ (spec : Spec) (clock events : ℕ) (book later : Tickets) (table : IsTable spec clock events s book) (next : AreNext spec clock (events + 1) new later) where
    -- the table once the event is counted
    pub written-table : h.entry.stamp ≡ events + 1 → h.entry.moment ≡ clock → h.entry.refs ≡ refs h.key (tickets_of new later)
        → ((j : ℕ) (g : Held) → j ≢ slot → held_at s j ≡ Some g → refs g.key (tickets_of new later) ≡ refs g.key (tickets_of s book))
        → IsStock new → IsRising new new.queue → new.newest ≤ events + 1 → new.columns ≡ s.columns → length new.slots ≡ length s.slots → IsTable spec clock (events + 1) new later
    written-table stamp moment own others stock rising newest columns sized = record {
      bounded = next.bounded;
      stock = stock;
      rising = rising;
      counted = λ j g there. counted_at j g there (cases_eq j slot);
      held = next.held;
      numbered = next.numbered;
      issued = next.issued;
      past = λ j g there. past_at j g there (cases_eq j slot);
      store_newest = newest;
      book_newest = next.newest;
      columns = columns ∙ table.columns;
      sized = sized ∙ table.sized;
      capacity = next.capacity;
    }
      where
        one : (j : ℕ) (g : Held) → held_at new j ≡ Some g → j ≡ slot → h ≡ g
        one j g there same = same_some (sym w.here ∙ ap (held_at new) (sym same) ∙ there)

        counted_at : (j : ℕ) (g : Held) → held_at new j ≡ Some g → (j ≡ slot) ⊎ (j ≢ slot) → g.entry.refs ≡ refs g.key (tickets_of new later)
        counted_at j g there (inl same) = subst (λ (x : Held). x.entry.refs ≡ refs x.key (tickets_of new later)) (one j g there same) own
        counted_at j g there (inr apart) = let was : held_at s j ≡ Some g = sym (w.same j apart) ∙ there in table.counted j g was ∙ sym (others j g apart was)

        past_at : (j : ℕ) (g : Held) → held_at new j ≡ Some g → (j ≡ slot) ⊎ (j ≢ slot) → (g.entry.stamp ≤ events + 1) × (g.entry.moment ≤ clock)
        past_at j g there (inl same) =
            let it : h ≡ g = one j g there same in
            subst (λ (x : Held). (x.entry.stamp ≤ events + 1) × (x.entry.moment ≤ clock)) it (omega (arith, stamp), omega (arith, moment))
        past_at j g there (inr apart) = let p = table.past j g (sym (w.same j apart) ∙ there) in (omega (arith, p.0), p.1)
