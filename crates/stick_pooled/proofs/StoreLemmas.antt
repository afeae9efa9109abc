-- An event that changes the data of a key's entry and refreshes it, or makes it first where there is room.
use Rattle.std.proofs.Common.{◌≡◌, ◌≢◌, ℕ, ◌+◌, ◌<◌, refl, sym, ◌∙◌, ap, arith, List, [], ◌∷◌, length, map, set, Bool, true, false, cond, Option, Some, None, is_some, IsSome, unwrap_or}
use Rattle.std.specs.BTreeMap.{insert_entry}
use Rattle.std.specs.List.{AllByRecursion}
use Rattle.std.specs.Option.{option_map, option_map_or}
use Rattle.std.proofs.lemmas.Bool.{true≢false}
use Rattle.std.proofs.lemmas.List.{get_or-set_same, get_or-set_other, length-set, set-set, set-get_or}
use Rattle.std.proofs.lemmas.List.Sums.{sum_by-cons}
use Rattle.stored_data.specs.Acts.{zero_of}
use Rattle.stored_data.specs.declared.values.StoredValue.{StoredValue}
use Rattle.entry_pool.proofs.SlotLemmas.{get_within}
use Rattle.stick_pooled.specs.Stock.{Held, Stock, IsStock, IsAbsent, held_at, with_entry, with_values, with_inserted, key_in}
use Rattle.stick_pooled.proofs.StockLemmas.{none_some, inserted, not_queued}
use Rattle.stick_pooled.specs.Tickets.{Tickets}
use Rattle.stick_model.specs.Key.{Key, key_cmp, same_key}
use Rattle.stick_model.specs.State.{State, refs, record_at, zero_record, touched}
use Rattle.stick_model.specs.Step.{found_or_zero}
use Rattle.stick_model.specs.Room.{room_in, stored}
use Rattle.stick_model.specs.declared.rows.Ticket.{Ticket}
use Rattle.stick_model.specs.declared.rows.Record.{Record}
use Rattle.stick_model.specs.declared.specification.Spec.{Spec}
use Rattle.stick_model.proofs.KeyLemmas.{same_key-exact}
use Rattle.stick_pooled.specs.Shown.{record_of, records_of, stamp_at, moment_at, IsRising}
use Rattle.stick_pooled.specs.Space.{IsRoomy, IsFull}
use Rattle.stick_pooled.specs.Table.{with_key, tickets_of, state_of, IsTable}
use Rattle.stick_pooled.proofs.RecordLemmas.{lookup-at}
use Rattle.stick_pooled.proofs.TableLemmas.{left-table, left-tickets}
use Rattle.stick_pooled.proofs.ChangeLemmas.{alike-values, tickets-alike, values-table}
use Rattle.stick_pooled.proofs.RisingLemmas.{others-absent, rising-entered}
use Rattle.stick_pooled.proofs.WriteLemmas.{AreNext, IsWritten, stamps-past, tickets-written, held-written, written-table}
use Rattle.stick_pooled.proofs.StoredLemmas.{replaced-records, inserted-records}
use Rattle.stick_pooled.proofs.RefreshLemmas.{fresh, refresh-written, refreshed-table}

-- the record of a key whose data an event changes
abbrev pub changed : State → Key → (List StoredValue → List StoredValue) → Record
changed state key change =
    let found : Record = found_or_zero state key in
    touched state (record found { values = change found.values })

-- ---- the definition's cases
module _ (state : State) (key : Key) (found : Record) where
  abbrev roomy : Option (List (Key × Record)) → Option State
  roomy o = option_map (λ rs. record state { records = rs }) (option_map (λ rs. insert_entry key_cmp rs key found) o)

  pub stored-there : (r : Record) → record_at key state.records ≡ Some r → stored state key found ≡ Some (record state { records = insert_entry key_cmp state.records key found })
  stored-there r there = ap (λ (o : Option Record). roomy (cond (is_some o) (Some state.records) (room_in state.spec state.tickets state.records))) there

  pub stored-new : record_at key state.records ≡ None → (rs : List (Key × Record)) → room_in state.spec state.tickets state.records ≡ Some rs → stored state key found ≡ Some (record state { records = insert_entry key_cmp rs key found })
  stored-new none rs room = ap (λ (o : Option Record). roomy (cond (is_some o) (Some state.records) (room_in state.spec state.tickets state.records))) none ∙ ap roomy room

  pub stored-full : record_at key state.records ≡ None → room_in state.spec state.tickets state.records ≡ None → stored state key found ≡ None
  stored-full none room = ap (λ (o : Option Record). roomy (cond (is_some o) (Some state.records) (room_in state.spec state.tickets state.records))) none ∙ ap roomy room

-- ---- keys
same-false : (a b : Key) → a ≢ b → same_key a b ≡ false
same-false a b apart = go (same_key a b) refl
  where
    go : (t : Bool) → same_key a b ≡ t → t ≡ false
    go false is = refl
    go true is = absurd (apart (same_key-exact a b is))

-- a key that has no entry has no ticket
pub refs-absent : (s : Stock) (key : Key) → IsAbsent s key → (bt : List (Ticket × ℕ)) → AllByRecursion (λ (t : Ticket × ℕ). IsSome (held_at s t.1)) bt → ◌≡◌ {A = ℕ} (refs key (map (with_key s) bt)) 0
refs-absent s key absent [] held = refl
refs-absent s key absent (t ∷ bt) held = go (refs-absent s key absent bt held.1) (held_at s t.1) refl held.0
  where
    go : ◌≡◌ {A = ℕ} (refs key (map (with_key s) bt)) 0 → (o : Option Held) → held_at s t.1 ≡ o → IsSome o → ◌≡◌ {A = ℕ} (refs key (map (with_key s) (t ∷ bt))) 0
    go rest None is some = absurd (true≢false (sym some))
    go rest (Some h) is some =
        let none : ◌≡◌ {A = ℕ} (cond (same_key key (key_in (held_at s t.1))) 1 0) 0 = ap (λ (o : Option Held). cond {A = ℕ} (same_key key (key_in o)) 1 0) is ∙ ap (λ b. cond {A = ℕ} b 1 0) (same-false key h.key (λ same. absent t.1 h is (sym same))) in
        omega (arith, rest, none, sum_by-cons (λ (x : Ticket × Key). cond {A = ℕ} (same_key key x.1) 1 0) (with_key s t) (map (with_key s) bt))

-- a key without a record has no entry
pub absent-from : (expire : Option ℕ) (s : Stock) → IsStock s → (key : Key) → record_at key (records_of expire s) ≡ None → IsAbsent s key
absent-from expire s kept key none j h there same = none_some (sym none ∙ ap (λ k. record_at k (records_of expire s)) (sym same) ∙ lookup-at expire s kept j h there)

-- ---- data that change once more, or don't
module _ (s : Stock) (slot : ℕ) where
  values-option : (f g : List StoredValue → List StoredValue) (o : Option Held) → option_map (λ (held : Held). record held { values = g held.values }) (option_map (λ (held : Held). record held { values = f held.values }) o) ≡ option_map (λ (held : Held). record held { values = g (f held.values) }) o
  values-option f g None = refl
  values-option f g (Some h) = refl

  pub values-again : (h : Held) (f g : List StoredValue → List StoredValue) → held_at s slot ≡ Some h → with_values (with_values s slot f) slot g ≡ with_values s slot (λ values. g (f values))
  values-again h f g there =
      let inside = get_within s.slots slot h there in
      ap (λ (slots : List (Option Held)). record s { slots = slots })
      (ap (λ (o : Option Held). set (with_values s slot f).slots slot (option_map (λ (held : Held). record held { values = g held.values }) o)) (get_or-set_same s.slots slot (option_map (λ (held : Held). record held { values = f held.values }) (held_at s slot)) None inside)
      ∙ set-set s.slots slot (option_map (λ (held : Held). record held { values = f held.values }) (held_at s slot)) _
      ∙ ap (set s.slots slot) (values-option f g (held_at s slot)))

  same-option : (o : Option Held) → option_map (λ (held : Held). record held { values = held.values }) o ≡ o
  same-option None = refl
  same-option (Some h) = refl

  pub values-same : with_values s slot (λ values. values) ≡ s
  values-same = ap (λ (slots : List (Option Held)). record s { slots = slots }) (ap (set s.slots slot) (same-option (held_at s slot)) ∙ set-get_or s.slots slot None)

  pub values-at : (h : Held) (f : List StoredValue → List StoredValue) → held_at s slot ≡ Some h → held_at (with_values s slot f) slot ≡ Some (record h { values = f h.values })
  values-at h f there = get_or-set_same s.slots slot (option_map (λ (held : Held). record held { values = f held.values }) (held_at s slot)) None (get_within s.slots slot h there) ∙ ap (option_map (λ (held : Held). record held { values = f held.values })) there

-- ---- an entry that is there
module _ (spec : Spec) (clock events : ℕ) (s : Stock) (book : Tickets) (table : IsTable spec clock events s book) (slot : ℕ) (h : Held) (there : held_at s slot ≡ Some h) (change : List StoredValue → List StoredValue) (count : ℕ) where
  abbrev middle : Stock
  middle = with_values s slot change

  abbrev pub new-there : Stock
  new-there = with_entry (with_values s slot change) slot (fresh clock events count)

  abbrev changed-there : Held
  changed-there = record h { values = change h.values }

  pub there-tickets : tickets_of new-there book ≡ tickets_of s book
  there-tickets =
      tickets-written middle new-there slot (record changed-there { entry = fresh clock events count }) (refresh-written middle slot changed-there (values-at s slot h change there) (fresh clock events count)) book.tickets (values-table spec clock events s book table slot h change there).held
      ∙ tickets-alike s middle (alike-values s slot h change there) book.tickets

  pub there-held : AllByRecursion (λ (t : Ticket × ℕ). IsSome (held_at new-there t.1)) book.tickets
  there-held = held-written middle new-there slot (record changed-there { entry = fresh clock events count }) (refresh-written middle slot changed-there (values-at s slot h change there) (fresh clock events count)) book.tickets (values-table spec clock events s book table slot h change there).held

  pub there-at : held_at new-there slot ≡ Some (record h { values = change h.values; entry = fresh clock events count })
  there-at = (refresh-written middle slot changed-there (values-at s slot h change there) (fresh clock events count)).here

  pub there-table : (later : Tickets) → AreNext spec clock (events + 1) new-there later → count ≡ refs h.key (tickets_of new-there later) → ((key : Key) → same_key key h.key ≡ false → refs key (tickets_of new-there later) ≡ refs key (tickets_of s book))
      → IsTable spec clock (events + 1) new-there later
  there-table later next own others =
      refreshed-table spec clock events middle book (values-table spec clock events s book table slot h change there) slot changed-there (values-at s slot h change there) count later next own
      (λ key apart. others key apart ∙ ap (refs key) (sym (tickets-alike s middle (alike-values s slot h change there) book.tickets)))

  -- the definition stores the same
  pub there-stored : stored (state_of spec clock (events + 1) s book) h.key (changed (state_of spec clock (events + 1) s book) h.key change) ≡ Some (state_of spec clock (events + 1) new-there book)
  there-stored =
      let state : State = state_of spec clock (events + 1) s book in
      let it : Held = record h { values = change h.values; entry = fresh clock events count } in
      let found = lookup-at spec.expire s table.stock slot h there in
      let is : changed state h.key change ≡ record_of spec.expire it = ap (λ (o : Option Record). let r : Record = unwrap_or o (zero_record spec.columns) in touched state (record r { values = change r.values })) found in
      let slots : new-there.slots ≡ set s.slots slot (Some it) =
      ap (λ (o : Option Held). set middle.slots slot (option_map (λ (held : Held). record held { entry = fresh clock events count }) o)) (values-at s slot h change there)
      ∙ set-set s.slots slot (option_map (λ (held : Held). record held { values = change held.values }) (held_at s slot)) (Some it) in
      let records : records_of spec.expire new-there ≡ insert_entry key_cmp (records_of spec.expire s) h.key (record_of spec.expire it) = replaced-records spec.expire s new-there table.stock slot it slots h there refl in
      stored-there state h.key (changed state h.key change) (record_of spec.expire h) found
      ∙ ap (λ (r : Record). Some (record state { records = insert_entry key_cmp (records_of spec.expire s) h.key r })) is
      ∙ (λ i. Some (record state { records = sym records i; tickets = sym there-tickets i }))

-- ---- an entry that is made
module _ (spec : Spec) (clock events : ℕ) (s : Stock) (book : Tickets) (table : IsTable spec clock events s book) (key : Key) (none : record_at key (records_of spec.expire s) ≡ None) where
  pub full-stored : IsFull spec s → (change : List StoredValue → List StoredValue) → stored (state_of spec clock (events + 1) s book) key (changed (state_of spec clock (events + 1) s book) key change) ≡ None
  full-stored full change = stored-full (state_of spec clock (events + 1) s book) key (changed (state_of spec clock (events + 1) s book) key change) none (full (tickets_of s book) table.counted)

  pub absent-roomy : (r : Stock) → IsRoomy spec s r → IsAbsent r key
  absent-roomy r room j h there = absent-from spec.expire s table.stock key none j h (room.left.fewer j h there)

  module _ (r : Stock) (room : IsRoomy spec s r) (slot : ℕ) (inside : slot < length r.slots) (free : held_at r slot ≡ None) (count : ℕ) where
    roomy-table : IsTable spec clock events r book
    roomy-table = left-table spec clock events clock (omega arith) s r book table room.left table.bounded.clock_ok room.stock room.rising room.columns room.newest room.size

    abbrev pub made : Held
    made = record { key = key; generation = events + 1; entry = fresh clock events count; values = zero_of r.columns }

    abbrev pub newly : Stock
    newly = with_inserted r slot made

    pub newly-written : IsWritten r newly slot made
    newly-written = record {
      here = get_or-set_same r.slots slot (Some made) None inside;
      same = λ j apart. get_or-set_other r.slots slot j (Some made) None apart;
      keyed = λ g is. absurd (none_some (sym free ∙ is));
    }

    pub newly-tickets : tickets_of newly book ≡ tickets_of s book
    newly-tickets = tickets-written r newly slot made newly-written book.tickets roomy-table.held ∙ left-tickets spec clock events clock (omega arith) s r book table room.left

    pub newly-held : AllByRecursion (λ (t : Ticket × ℕ). IsSome (held_at newly t.1)) book.tickets
    newly-held = held-written r newly slot made newly-written book.tickets roomy-table.held

    pub none-out : ◌≡◌ {A = ℕ} (refs key (tickets_of s book)) 0
    none-out = refs-absent s key (absent-from spec.expire s table.stock key none) book.tickets table.held

    newly-rising : IsRising newly newly.queue
    newly-rising =
        let stamp : stamp_at newly slot ≡ events + 1 = ap (λ (o : Option Held). option_map_or (λ (held : Held). held.entry.stamp) o 0) newly-written.here in
        let moment : moment_at newly slot ≡ clock = ap (λ (o : Option Held). option_map_or (λ (held : Held). held.entry.moment) o 0) newly-written.here in
        rising-entered r newly slot newly-written.same (λ j. let p = stamps-past r clock events roomy-table.past j in (omega (arith, p.0, stamp), omega (arith, p.1, moment)))
        r.queue count (others-absent slot r.queue (not_queued r slot room.stock free)) room.rising

    pub newly-table : (later : Tickets) → AreNext spec clock (events + 1) newly later → count ≡ refs key (tickets_of newly later) → ((other : Key) → same_key other key ≡ false → refs other (tickets_of newly later) ≡ refs other (tickets_of s book)) → IsTable spec clock (events + 1) newly later
    newly-table later next own others =
        written-table r newly slot made newly-written spec clock events book later roomy-table next refl refl own
        (λ j g apart is. others g.key (same-false g.key key (absent-roomy r room j g is)) ∙ ap (refs g.key) (sym (left-tickets spec clock events clock (omega arith) s r book table room.left)))
        (inserted r slot made room.stock inside free (absent-roomy r room)) newly-rising (omega arith) refl (length-set r.slots slot _)

    module _ (change : List StoredValue → List StoredValue) where
      abbrev pub new-made : Stock
      new-made = with_values newly slot change

      pub made-tickets : (bt : List (Ticket × ℕ)) → map (with_key new-made) bt ≡ map (with_key newly) bt
      made-tickets = tickets-alike newly new-made (alike-values newly slot made change newly-written.here)

      pub made-table : (later : Tickets) → IsTable spec clock (events + 1) newly later → IsTable spec clock (events + 1) new-made later
      made-table later newly_table = values-table spec clock (events + 1) newly later newly_table slot made change newly-written.here

      pub made-stored : stored (state_of spec clock (events + 1) s book) key (changed (state_of spec clock (events + 1) s book) key change) ≡ Some (state_of spec clock (events + 1) new-made book)
      made-stored =
          let state : State = state_of spec clock (events + 1) s book in
          let it : Held = record made { values = change made.values } in
          let columns : r.columns ≡ spec.columns = room.columns ∙ table.columns in
          let is : changed state key change ≡ record_of spec.expire it =
          ap (λ (o : Option Record). let found : Record = unwrap_or o (zero_record spec.columns) in touched state (record found { values = change found.values })) none
          ∙ ap (λ cs. touched state (record (zero_record spec.columns) { values = change (zero_of cs) })) (sym columns) in
          let slots : new-made.slots ≡ set r.slots slot (Some it) =
          ap (λ (o : Option Held). set newly.slots slot (option_map (λ (held : Held). record held { values = change held.values }) o)) newly-written.here
          ∙ set-set r.slots slot (Some made) (Some it) in
          let records : records_of spec.expire new-made ≡ insert_entry key_cmp (records_of spec.expire r) key (record_of spec.expire it) = inserted-records spec.expire r new-made room.stock slot it slots inside free (absent-roomy r room) in
          let tickets : tickets_of new-made book ≡ tickets_of s book = made-tickets book.tickets ∙ newly-tickets in
          stored-new state key (changed state key change) none (records_of spec.expire r) (room.records (tickets_of s book) table.counted)
          ∙ ap (λ (found : Record). Some (record state { records = insert_entry key_cmp (records_of spec.expire r) key found })) is
          ∙ (λ i. Some (record state { records = sym records i; tickets = sym tickets i }))
