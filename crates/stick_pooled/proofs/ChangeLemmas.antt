-- What a table keeps where the data of one entry change.
use Rattle.std.proofs.Common.{◌≡◌, ℕ, ◌<◌, ◌≤◌, ◌⊎◌, inl, inr, refl, sym, ◌∙◌, ap, subst, arith, List, [], ◌∷◌, length, map, set, Option, Some, None, is_some, IsSome}
use Rattle.std.specs.Map.{set_value}
use Rattle.std.specs.List.{AllByRecursion}
use Rattle.std.specs.Option.{option_map, option_map_or}
use Rattle.std.specs.Cmp.Lexicographic.{nat_list_cmp_total}
use Rattle.std.proofs.lemmas.Bool.{cases_eq}
use Rattle.std.proofs.lemmas.List.{get_or-set_same, get_or-set_other, length-set, map-set}
use Rattle.std.proofs.lemmas.Map.Lookups.{exact_bytes}
use Rattle.stored_data.specs.declared.values.StoredValue.{StoredValue}
use Rattle.entry_pool.proofs.SlotLemmas.{get_within}
use Rattle.stick_pooled.specs.Stock.{Held, Stock, IsStock, held_at, with_values, key_in}
use Rattle.stick_pooled.specs.declared.entry.Entry.{Entry}
use Rattle.stick_pooled.specs.Slots.{entries_of}
use Rattle.stick_pooled.proofs.StockLemmas.{none_some, same_some, revalued}
use Rattle.stick_pooled.proofs.SlotLemmas.{entries-write}
use Rattle.stick_pooled.specs.Tickets.{Tickets}
use Rattle.stick_table.specs.Invariant.{IsBounded}
use Rattle.stick_model.specs.Key.{Key, key_cmp, same_key}
use Rattle.stick_model.specs.State.{refs}
use Rattle.stick_model.specs.Step.{with_record}
use Rattle.stick_model.specs.declared.rows.Ticket.{Ticket}
use Rattle.stick_model.specs.declared.specification.Spec.{Spec}
use Rattle.stick_pooled.specs.Shown.{record_of, keyed, records_of, stamp_at, moment_at, IsRising}
use Rattle.stick_pooled.specs.Table.{with_key, tickets_of, state_of, IsTable}
use Rattle.stick_pooled.proofs.RecordLemmas.{alone-at, shown-at}

-- an entry but for its data
abbrev shape : Held → Key × Entry
shape h = (h.key, h.entry)

-- each slot has an entry of the same key, refreshed and referred to as it was
abbrev pub AreAlike : Stock → Stock → Type 0
AreAlike s new = (slot : ℕ) → option_map shape (held_at new slot) ≡ option_map shape (held_at s slot)

pub alike-values : (s : Stock) (slot : ℕ) (h : Held) (change : List StoredValue → List StoredValue) → held_at s slot ≡ Some h → AreAlike s (with_values s slot change)
alike-values s slot h change there j = by_place (cases_eq j slot)
  where
    by_place : (j ≡ slot) ⊎ (j ≡ slot → ⊥) → option_map shape (held_at (with_values s slot change) j) ≡ option_map shape (held_at s j)
    by_place (inr apart) = ap (option_map shape) (get_or-set_other s.slots slot j (option_map (λ (held : Held). record held { values = change held.values }) (held_at s slot)) None apart)
    by_place (inl same) =
        ap (λ i. option_map shape (held_at (with_values s slot change) i)) same
        ∙ ap (option_map shape) (get_or-set_same s.slots slot (option_map (λ (held : Held). record held { values = change held.values }) (held_at s slot)) None (get_within s.slots slot h there)
        ∙ ap (option_map (λ (held : Held). record held { values = change held.values })) there)
        ∙ sym (ap (λ i. option_map shape (held_at s i)) same ∙ ap (option_map shape) there)

module _ (s new : Stock) (alike : AreAlike s new) where
  by-shape : {Y : Type 0} (f : Key × Entry → Y) (d : Y) (o p : Option Held) → option_map shape o ≡ option_map shape p → option_map_or (λ (h : Held). f (shape h)) o d ≡ option_map_or (λ (h : Held). f (shape h)) p d
  by-shape f d None None same = refl
  by-shape f d None (Some h) same = absurd (none_some same)
  by-shape f d (Some h) None same = absurd (none_some (sym same))
  by-shape f d (Some h) (Some g) same = ap f (same_some same)

  same-stamp : (slot : ℕ) → stamp_at new slot ≡ stamp_at s slot
  same-stamp slot = by-shape (λ (p : Key × Entry). p.1.stamp) 0 (held_at new slot) (held_at s slot) (alike slot)

  same-moment : (slot : ℕ) → moment_at new slot ≡ moment_at s slot
  same-moment slot = by-shape (λ (p : Key × Entry). p.1.moment) 0 (held_at new slot) (held_at s slot) (alike slot)

  key-or : (o : Option Held) → key_in o ≡ option_map_or (λ (h : Held). h.key) o []
  key-or None = refl
  key-or (Some h) = refl

  same-key : (slot : ℕ) → key_in (held_at new slot) ≡ key_in (held_at s slot)
  same-key slot = key-or (held_at new slot) ∙ by-shape (λ (p : Key × Entry). p.0) [] (held_at new slot) (held_at s slot) (alike slot) ∙ sym (key-or (held_at s slot))

  -- an entry that is there was there, but for its data
  was-there : (slot : ℕ) (h : Held) → held_at new slot ≡ Some h → (g : Held) × (held_at s slot ≡ Some g) × (g.key ≡ h.key) × (g.entry ≡ h.entry)
  was-there slot h there = go (held_at s slot) refl (sym (ap (option_map shape) there) ∙ alike slot)
    where
      go : (o : Option Held) → held_at s slot ≡ o → Some (shape h) ≡ option_map shape o → (g : Held) × (held_at s slot ≡ Some g) × (g.key ≡ h.key) × (g.entry ≡ h.entry)
      go None is same = absurd (none_some (sym same))
      go (Some g) is same = (g, is, ap (λ (p : Key × Entry). p.0) (sym (same_some same)), ap (λ (p : Key × Entry). p.1) (sym (same_some same)))

  all-alike : (x : ℕ) (ys : List ℕ) → AllByRecursion (λ y. (stamp_at s x < stamp_at s y) × (moment_at s x ≤ moment_at s y)) ys → AllByRecursion (λ y. (stamp_at new x < stamp_at new y) × (moment_at new x ≤ moment_at new y)) ys
  all-alike x [] h = tt
  all-alike x (y ∷ ys) h = (
    (omega (arith, h.0.0, same-stamp x, same-stamp y), omega (arith, h.0.1, same-moment x, same-moment y)),
    all-alike x ys h.1,
  )

  rising-alike : (ys : List ℕ) → IsRising s ys → IsRising new ys
  rising-alike [] h = tt
  rising-alike (y ∷ ys) h = (all-alike y ys h.0, rising-alike ys h.1)

  pub tickets-alike : (bt : List (Ticket × ℕ)) → map (with_key new) bt ≡ map (with_key s) bt
  tickets-alike [] = refl
  tickets-alike (t ∷ bt) = ap (λ key. (t.0, key) ∷ map (with_key new) bt) (same-key t.1) ∙ ap (λ ts. with_key s t ∷ ts) (tickets-alike bt)

  some-alike : (o p : Option Held) → option_map shape o ≡ option_map shape p → is_some o ≡ is_some p
  some-alike None None same = refl
  some-alike None (Some h) same = absurd (none_some same)
  some-alike (Some h) None same = absurd (none_some (sym same))
  some-alike (Some h) (Some g) same = refl

  held-alike : (bt : List (Ticket × ℕ)) → AllByRecursion (λ (t : Ticket × ℕ). IsSome (held_at s t.1)) bt → AllByRecursion (λ (t : Ticket × ℕ). IsSome (held_at new t.1)) bt
  held-alike [] h = tt
  held-alike (t ∷ bt) h = (some-alike (held_at new t.1) (held_at s t.1) (alike t.1) ∙ h.0, held-alike bt h.1)

  pub alike-table : (spec : Spec) (clock events : ℕ) (book : Tickets) → IsTable spec clock events s book → IsStock new → new.queue ≡ s.queue → new.columns ≡ s.columns → new.newest ≡ s.newest → length new.slots ≡ length s.slots → IsTable spec clock events new book
  alike-table spec clock events book table stock queue columns newest sized = record {
    bounded = subst (IsBounded spec clock events) (sym (tickets-alike book.tickets)) table.bounded;
    stock = stock;
    rising = subst (IsRising new) (sym queue) (rising-alike s.queue table.rising);
    counted = λ slot h there.
        let g = was-there slot h there in
        ap (λ (e : Entry). e.refs) (sym g.3) ∙ table.counted slot g.0 g.1 ∙ ap (λ k. refs k (tickets_of s book)) g.2 ∙ ap (refs h.key) (sym (tickets-alike book.tickets));
    held = held-alike book.tickets table.held;
    numbered = table.numbered;
    issued = table.issued;
    past = λ slot h there.
        let g = was-there slot h there in
        let p = table.past slot g.0 g.1 in
        subst (λ (e : Entry). (e.stamp ≤ events) × (e.moment ≤ clock)) g.3 p;
    store_newest = let n = table.store_newest in omega (arith, n, newest);
    book_newest = table.book_newest;
    columns = columns ∙ table.columns;
    sized = sized ∙ table.sized;
    capacity = table.capacity;
  }

-- ---- the data of an entry
pub values-table : (spec : Spec) (clock events : ℕ) (s : Stock) (book : Tickets) → IsTable spec clock events s book → (slot : ℕ) (h : Held) (change : List StoredValue → List StoredValue) → held_at s slot ≡ Some h → IsTable spec clock events (with_values s slot change) book
values-table spec clock events s book table slot h change there =
    alike-table s (with_values s slot change) (alike-values s slot h change there) spec clock events book table
    (revalued s slot h change table.stock (get_within s.slots slot h there) there) refl refl refl (length-set s.slots slot _)

pub values-state : (spec : Spec) (clock events : ℕ) (s : Stock) (book : Tickets) → IsTable spec clock events s book → (slot : ℕ) (h : Held) (change : List StoredValue → List StoredValue) → held_at s slot ≡ Some h
    → state_of spec clock events (with_values s slot change) book ≡ with_record (state_of spec clock events s book) h.key (record (record_of spec.expire h) { values = change h.values })
values-state spec clock events s book table slot h change there =
    ap (λ rs. record { spec = spec; clock = clock; events = events; records = rs; tickets = tickets_of (with_values s slot change) book })
    (ap (entries_of key_cmp) (map-set (option_map (keyed spec.expire)) s.slots slot (option_map (λ (held : Held). record held { values = change held.values }) (held_at s slot))
    ∙ ap (λ o. set (map (option_map (keyed spec.expire)) s.slots) slot (option_map (keyed spec.expire) (option_map (λ (held : Held). record held { values = change held.values }) o))) there)
    ∙ entries-write key_cmp nat_list_cmp_total exact_bytes h.key (record_of spec.expire h) (record (record_of spec.expire h) { values = change h.values }) (map (option_map (keyed spec.expire)) s.slots) slot (alone-at spec.expire s table.stock slot h there) (shown-at spec.expire s table.stock slot h there))
    ∙ ap (λ ts. record { spec = spec; clock = clock; events = events; records = set_value (same_key h.key) (records_of spec.expire s) (record (record_of spec.expire h) { values = change h.values }); tickets = ts }) (tickets-alike s (with_values s slot change) (alike-values s slot h change there) book.tickets)
