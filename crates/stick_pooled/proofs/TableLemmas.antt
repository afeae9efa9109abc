-- What a table keeps while the clock goes on.
use Rattle.std.proofs.Common.{Bool, true, false}
use Rattle.stick_model.specs.State.{State}
use Rattle.std.specs.Prelude.{if◌then◌else◌}
use Rattle.std.specs.List.{Contains}
use Rattle.std.proofs.lemmas.Bool.Decides.{nat_tests}
use Rattle.stick_table.specs.Invariant.{IsBounded}
use Rattle.stick_pooled.proofs.StockLemmas.{none_some, same_some}
use Rattle.stick_pooled.specs.declared.entry.Entry.{Entry}
use Rattle.stick_model.specs.Step.{clear}
use Rattle.stick_model.specs.declared.replies.Reply.TheVariants.{Absent, InUse, Removed}
use Rattle.std.proofs.Common.{◌⊎◌, inl, inr, not}
use Rattle.std.specs.Prelude.{nat_lt}
use Rattle.std.proofs.lemmas.Bool.{cases_eq, cases_lt}
use Rattle.std.proofs.lemmas.List.{get_or-set_same, get_or-set_other, length-set, get_or-replicate, get_or_past}
use Rattle.std.proofs.lemmas.Map.Lookups.{exact_bytes}
use Rattle.entry_pool.specs.declared.slot_handle.Handle.{Handle}
use Rattle.entry_pool.proofs.SlotLemmas.{get_within}
use Rattle.stick_pooled.specs.Stock.{IsFree, IsAt, IsAbsent, without_slot, key_in}
use Rattle.stick_pooled.proofs.StockLemmas.{removed}
use Rattle.stick_pooled.proofs.SlotLemmas.{lookup-entries, absent}
use Rattle.stick_model.specs.State.{is_tracked, record_at}
use Rattle.stick_model.specs.Step.{without_record}
use Rattle.stick_pooled.specs.Shown.{record_of}
use Rattle.stick_pooled.proofs.RecordLemmas.{lookup-at, held-from, records-without, rising-without}
use Rattle.std.proofs.Common.{◌≡◌, ◌≢◌, ℕ, zero, suc, ◌+◌, ◌^◌, ◌<◌, ◌≤◌, refl, sym, ◌∙◌, ap, subst, arith, List, [], ◌∷◌, length, filter, map, replicate, cond, Option, Some, None, is_some, IsSome, count_by}
use Rattle.std.specs.Prelude.{max}
use Rattle.std.specs.List.{AllByRecursion, IsDistinct}
use Rattle.std.proofs.Math.ListN.{length-replicate}
use Rattle.stored_data.specs.declared.stored_set.Column.{Column}
use Rattle.stick_model.specs.Limits.{IsTableSpec}
use Rattle.std.specs.Option.{option_map}
use Rattle.std.proofs.lemmas.Bool.{true≢false}
use Rattle.std.proofs.lemmas.List.Sums.{sum_by-cons}
use Rattle.std.specs.Cmp.Lexicographic.{nat_list_cmp_total}
use Rattle.stick_pooled.specs.Stock.{Held, Stock, IsStock, held_at, held_count, empty}
use Rattle.stick_pooled.proofs.StoreCountLemmas.{length-entries}
use Rattle.stick_pooled.proofs.RecordLemmas.{distinct-records}
use Rattle.stick_pooled.specs.Slots.{entries_of}
use Rattle.stick_pooled.specs.Tickets.{Tickets, no_tickets}
use Rattle.stick_model.specs.Key.{Key, key_cmp, same_key}
use Rattle.stick_model.specs.State.{refs, stays, empty_table, advance}
use Rattle.stick_model.specs.declared.rows.Ticket.{Ticket}
use Rattle.stick_model.specs.declared.rows.Record.{Record}
use Rattle.stick_model.specs.declared.specification.Spec.{Spec}
use Rattle.stick_model.proofs.KeyLemmas.{same_key-refl}
use Rattle.stick_pooled.specs.Shown.{keyed, records_of, AreCounted, IsRising, IsLeft}
use Rattle.stick_pooled.specs.Table.{with_key, number_of, tickets_of, state_of, IsTable}

-- ---- tickets keep their entries
module _ (old new : Stock) (left : IsLeft old new) (total : Key → ℕ) (counted : (slot : ℕ) (held : Held) → held_at old slot ≡ Some held → held.entry.refs ≡ total held.key) where
  refs-cons : (key : Key) (t : Ticket × Key) (ts : List (Ticket × Key)) → refs key (t ∷ ts) ≡ cond (same_key key t.1) 1 0 + refs key ts
  refs-cons key t ts = sum_by-cons (λ (held : Ticket × Key). cond (same_key key held.1) 1 0) t ts

  pub entries-stay : (bt : List (Ticket × ℕ)) → AllByRecursion (λ (t : Ticket × ℕ). IsSome (held_at old t.1)) bt → ((key : Key) → refs key (map (with_key old) bt) ≤ total key) → AllByRecursion (λ (t : Ticket × ℕ). held_at new t.1 ≡ held_at old t.1) bt
  entries-stay [] held few = tt
  entries-stay (t ∷ bt) held few = (
    here (held_at old t.1) refl held.0,
    entries-stay bt held.1 (λ key. let all = few key in omega (arith, all, refs-cons key (with_key old t) (map (with_key old) bt))),
  )
    where
      here : (o : Option Held) → held_at old t.1 ≡ o → IsSome o → held_at new t.1 ≡ held_at old t.1
      here None is some = absurd (true≢false (sym some))
      here (Some h) is some =
          let all = few h.key in
          let mine : ◌≡◌ {A = ℕ} (cond (same_key h.key (key_in (held_at old t.1))) 1 0) 1 = ap (λ (o : Option Held). cond {A = ℕ} (same_key h.key (key_in o)) 1 0) is ∙ ap (λ b. cond {A = ℕ} b 1 0) (same_key-refl h.key) in
          let counts = counted t.1 h is in
          let some_refs : h.entry.refs ≢ 0 = λ none. omega (arith, all, mine, counts, none, refs-cons h.key (with_key old t) (map (with_key old) bt)) in
          left.tracked t.1 h is some_refs ∙ sym is

pub same-tickets : (old new : Stock) (bt : List (Ticket × ℕ)) → AllByRecursion (λ (t : Ticket × ℕ). held_at new t.1 ≡ held_at old t.1) bt → map (with_key new) bt ≡ map (with_key old) bt
same-tickets old new [] h = refl
same-tickets old new (t ∷ bt) h = ap (λ (o : Option Held). (t.0, key_in o) ∷ map (with_key new) bt) h.0 ∙ ap (λ ts. with_key old t ∷ ts) (same-tickets old new bt h.1)

pub still-held : (old new : Stock) (bt : List (Ticket × ℕ)) → AllByRecursion (λ (t : Ticket × ℕ). held_at new t.1 ≡ held_at old t.1) bt → AllByRecursion (λ (t : Ticket × ℕ). IsSome (held_at old t.1)) bt → AllByRecursion (λ (t : Ticket × ℕ). IsSome (held_at new t.1)) bt
still-held old new [] h held = tt
still-held old new (t ∷ bt) h held = (subst IsSome (sym h.0) held.0, still-held old new bt h.1 held.1)

-- ---- the clock goes on
module _ (spec : Spec) (clock events now at : ℕ) (is : at ≡ max clock now) (old new : Stock) (book : Tickets) (table : IsTable spec clock events old book)
    (records : (tickets : List (Ticket × Key)) → AreCounted old tickets → records_of spec.expire new ≡ filter (stays at tickets) (records_of spec.expire old))
    (left : IsLeft old new) where
  stay : AllByRecursion (λ (t : Ticket × ℕ). held_at new t.1 ≡ held_at old t.1) book.tickets
  stay = entries-stay old new left (λ key. refs key (tickets_of old book)) table.counted book.tickets table.held (λ key. omega arith)

  tickets-stay : tickets_of new book ≡ tickets_of old book
  tickets-stay = same-tickets old new book.tickets stay

  pub advanced-is : state_of spec at events new book ≡ advance (state_of spec clock events old book) now
  advanced-is =
      ap (λ rs. record { spec = spec; clock = at; events = events; records = rs; tickets = tickets_of new book }) (records (tickets_of old book) table.counted)
      ∙ ap (λ ts. record { spec = spec; clock = at; events = events; records = filter (stays at (tickets_of old book)) (records_of spec.expire old); tickets = ts }) tickets-stay
      ∙ ap (λ moment. record { spec = spec; clock = moment; events = events; records = filter (stays moment (tickets_of old book)) (records_of spec.expire old); tickets = tickets_of old book }) is

-- what is left of a table, at a clock that may have gone on
module _ (spec : Spec) (clock events at : ℕ) (on : clock ≤ at) (old new : Stock) (book : Tickets) (table : IsTable spec clock events old book) (left : IsLeft old new) where
  left-stay : AllByRecursion (λ (t : Ticket × ℕ). held_at new t.1 ≡ held_at old t.1) book.tickets
  left-stay = entries-stay old new left (λ key. refs key (tickets_of old book)) table.counted book.tickets table.held (λ key. omega arith)

  pub left-tickets : tickets_of new book ≡ tickets_of old book
  left-tickets = same-tickets old new book.tickets left-stay

  pub left-table : at < 2 ^ 62 → IsStock new → IsRising new new.queue → new.columns ≡ old.columns → new.newest ≡ old.newest → length new.slots ≡ length old.slots → IsTable spec at events new book
  left-table moment stock rising columns newest sized = record {
    bounded = subst (IsBounded spec at events) (sym left-tickets) (record {
      spec_ok = table.bounded.spec_ok;
      clock_ok = moment;
      life_ok = table.bounded.life_ok;
      tickets_ok = table.bounded.tickets_ok;
    });
    stock = stock;
    rising = rising;
    counted = λ slot h there. table.counted slot h (left.fewer slot h there) ∙ ap (refs h.key) (sym left-tickets);
    held = still-held old new book.tickets left-stay table.held;
    numbered = table.numbered;
    issued = table.issued;
    past = λ slot h there. let p = table.past slot h (left.fewer slot h there) in (p.0, omega (arith, p.1, on));
    store_newest = let n = table.store_newest in omega (arith, newest, n);
    book_newest = table.book_newest;
    columns = columns ∙ table.columns;
    sized = sized ∙ table.sized;
    capacity = table.capacity;
  }

-- an event is counted
pub later-numbers : (events : ℕ) (numbers : List ℕ) → AllByRecursion (λ number. number ≤ events) numbers → AllByRecursion (λ number. number ≤ events + 1) numbers
later-numbers events [] h = tt
later-numbers events (n ∷ ns) h = (omega (arith, h.0), later-numbers events ns h.1)

pub counted-table : (spec : Spec) (clock events : ℕ) (s : Stock) (book : Tickets) → IsTable spec clock events s book → events + length (tickets_of s book) < spec.life → IsTable spec clock (events + 1) s book
counted-table spec clock events s book table life = record {
  bounded = record {
    spec_ok = table.bounded.spec_ok;
    clock_ok = table.bounded.clock_ok;
    life_ok = omega (arith, life);
    tickets_ok = table.bounded.tickets_ok;
  };
  stock = table.stock;
  rising = table.rising;
  counted = table.counted;
  held = table.held;
  numbered = table.numbered;
  issued = later-numbers events (map number_of book.tickets) table.issued;
  past = λ slot h there. let p = table.past slot h there in (omega (arith, p.0), p.1);
  store_newest = let n = table.store_newest in omega (arith, n);
  book_newest = let n = table.book_newest in omega (arith, n);
  columns = table.columns;
  sized = table.sized;
  capacity = table.capacity;
}

-- ---- how many records there are
count-shown : (expire : Option ℕ) (slots : List (Option Held)) → count_by is_some (map (option_map (keyed expire)) slots) ≡ count_by is_some slots
count-shown expire [] = refl
count-shown expire (o ∷ slots) =
    let rest = count-shown expire slots in
    let one : ◌≡◌ {A = ℕ} (cond (is_some (option_map (keyed expire) o)) 1 0) (cond (is_some o) 1 0) = ap (λ b. cond {A = ℕ} b 1 0) (some-shown o) in
    omega (arith, one, rest, sum_by-cons (λ (x : Option (Key × Record)). cond (is_some x) 1 0) (option_map (keyed expire) o) (map (option_map (keyed expire)) slots), sum_by-cons (λ (x : Option Held). cond (is_some x) 1 0) o slots)
  where
    some-shown : (o : Option Held) → is_some (option_map (keyed expire) o) ≡ is_some o
    some-shown None = refl
    some-shown (Some h) = refl

pub records-length : (expire : Option ℕ) (s : Stock) → IsStock s → length (records_of expire s) ≡ held_count s
records-length expire s kept = length-entries key_cmp nat_list_cmp_total (map (option_map (keyed expire)) s.slots) (distinct-records expire s kept) ∙ count-shown expire s.slots

-- ---- a new table
no-records : (expire : Option ℕ) (size : ℕ) → ◌≡◌ {A = List (Key × Record)} (entries_of key_cmp (map (option_map (keyed expire)) (replicate size None))) []
no-records expire zero = refl
no-records expire (suc size) = no-records expire size

pub new-state : (spec : Spec) (s : Stock) (book : Tickets) → s ≡ empty spec.size spec.columns → book ≡ no_tickets spec.max_refs → state_of spec 0 0 s book ≡ empty_table spec
new-state spec s book is told =
    (λ t. state_of spec 0 0 (is t) (told t)) ∙ ap (λ rs. record { spec = spec; clock = 0; events = 0; records = rs; tickets = [] }) (no-records spec.expire spec.size)

-- ---- a new table
no-entry : (size : ℕ) (columns : List Column) (slot : ℕ) (held : Held) → held_at (empty size columns) slot ≡ Some held → ⊥
no-entry size columns slot held there = elim (cases_lt slot size) [
  | inl h ↦ none_some (sym (get_or-replicate size slot None None h) ∙ there)
  | inr h ↦ none_some (sym (get_or_past (replicate size None) slot None (subst (λ m. m ≤ slot) (sym (length-replicate size None)) h)) ∙ there)
]

empty-table : (spec : Spec) → IsTableSpec spec → IsTable spec 0 0 (empty spec.size spec.columns) (no_tickets spec.max_refs)
unfolding IsDistinct
empty-table spec limits = record {
  bounded = record { spec_ok = limits; clock_ok = omega arith; life_ok = omega arith; tickets_ok = omega arith };
  stock = record {
    distinct = λ i j d e one. absurd (no-entry spec.size spec.columns i d one);
    once = tt;
    queued = λ slot. ((λ h. absurd (omega (arith, h.1))), (λ f. absurd (no-entry spec.size spec.columns slot f.held f.there)));
  };
  rising = tt;
  counted = λ slot held there. absurd (no-entry spec.size spec.columns slot held there);
  held = tt;
  numbered = tt;
  issued = tt;
  past = λ slot held there. absurd (no-entry spec.size spec.columns slot held there);
  store_newest = omega arith;
  book_newest = omega arith;
  columns = refl;
  sized = length-replicate spec.size None;
  capacity = refl;
}

pub new-table : (spec : Spec) (s : Stock) (book : Tickets) → IsTableSpec spec → s ≡ empty spec.size spec.columns → book ≡ no_tickets spec.max_refs → IsTable spec 0 0 s book
new-table spec s book limits is told = subst (λ x. IsTable spec 0 0 x book) (sym is) (subst (λ b. IsTable spec 0 0 (empty spec.size spec.columns) b) (sym told) (empty-table spec limits))

-- ---- an entry that goes
pub free-left : (s : Stock) (slot : ℕ) → IsStock s → IsFree s slot → IsLeft s (without_slot s slot)
free-left s slot kept f = record {
  fewer = λ j h there. was j h there (cases_eq j slot);
  tracked = λ j h there some. get_or-set_other s.slots slot j None None (λ same.
      let one : h ≡ f.held = same_some (sym there ∙ ap (held_at s) same ∙ f.there) in
      some (ap (λ (x : Held). x.entry.refs) one ∙ f.alone)) ∙ there;
  base = refl;
}
  where
    was : (j : ℕ) (h : Held) → held_at (without_slot s slot) j ≡ Some h → (j ≡ slot) ⊎ (j ≡ slot → ⊥) → held_at s j ≡ Some h
    was j h there (inl same) =
        absurd (none_some (sym (ap (λ i. held_at (without_slot s slot) i) same ∙ get_or-set_same s.slots slot None None (get_within s.slots slot f.held f.there)) ∙ there))
    was j h there (inr apart) = sym (get_or-set_other s.slots slot j None None apart) ∙ there

module _ (spec : Spec) (clock events : ℕ) (s : Stock) (book : Tickets) (table : IsTable spec clock events s book) where
  -- a key's record
  pub record-found : (key : Key) (handle : Handle) (at : IsAt s key handle) → record_at key (records_of spec.expire s) ≡ Some (record_of spec.expire at.held)
  record-found key handle at = ap (λ k. record_at k (records_of spec.expire s)) (sym at.keyed) ∙ lookup-at spec.expire s table.stock handle.slot at.held at.there

  pub record-absent : (key : Key) → IsAbsent s key → record_at key (records_of spec.expire s) ≡ None
  record-absent key none =
      lookup-entries key_cmp nat_list_cmp_total key (map (option_map (keyed spec.expire)) s.slots)
      ∙ absent key_cmp nat_list_cmp_total key (map (option_map (keyed spec.expire)) s.slots) (λ j e there same.
      let b = held-from spec.expire s table.stock j e there in
      none j b.0 b.1 (ap (λ (x : Key × Record). x.0) b.2 ∙ sym (exact_bytes key e.0 same)))

  pub tracked-is : (key : Key) (handle : Handle) (at : IsAt s key handle) → is_tracked key (tickets_of s book) ≡ nat_lt 0 at.held.entry.refs
  tracked-is key handle at = ap (λ n. nat_lt 0 n) (ap (λ k. refs k (tickets_of s book)) (sym at.keyed) ∙ sym (table.counted handle.slot at.held at.there))

  module _ (slot : ℕ) (f : IsFree s slot) where
    stays-out : AllByRecursion (λ (t : Ticket × ℕ). held_at (without_slot s slot) t.1 ≡ held_at s t.1) book.tickets
    stays-out = entries-stay s (without_slot s slot) (free-left s slot table.stock f) (λ key. refs key (tickets_of s book)) table.counted book.tickets table.held (λ key. omega arith)

    tickets-out : tickets_of (without_slot s slot) book ≡ tickets_of s book
    tickets-out = same-tickets s (without_slot s slot) book.tickets stays-out

    pub removed-table : IsTable spec clock events (without_slot s slot) book
    removed-table = record {
      bounded = subst (IsBounded spec clock events) (sym tickets-out) table.bounded;
      stock = removed s slot table.stock (get_within s.slots slot f.held f.there);
      rising = rising-without s slot s.queue table.rising;
      counted = λ j h there. table.counted j h ((free-left s slot table.stock f).fewer j h there) ∙ ap (refs h.key) (sym tickets-out);
      held = still-held s (without_slot s slot) book.tickets stays-out table.held;
      numbered = table.numbered;
      issued = table.issued;
      past = λ j h there. table.past j h ((free-left s slot table.stock f).fewer j h there);
      store_newest = table.store_newest;
      book_newest = table.book_newest;
      columns = table.columns;
      sized = length-set s.slots slot None ∙ table.sized;
      capacity = table.capacity;
    }

    pub removed-state : state_of spec clock events (without_slot s slot) book ≡ without_record (state_of spec clock events s book) f.held.key
    removed-state =
        ap (λ rs. record { spec = spec; clock = clock; events = events; records = rs; tickets = tickets_of (without_slot s slot) book }) (records-without spec.expire s table.stock slot f.held f.there)
        ∙ ap (λ ts. record { spec = spec; clock = clock; events = events; records = filter (λ (e : Key × Record). not (same_key f.held.key e.0)) (records_of spec.expire s); tickets = ts }) tickets-out

-- ---- a clear
clear-absent : (state : State) (key : Key) → record_at key state.records ≡ None → clear state key ≡ (Absent, state)
clear-absent state key none = ap (λ o. if not (is_some o) then (Absent, state) else (if is_tracked key state.tickets then (InUse, state) else (Removed, without_record state key))) none

clear-tracked : (state : State) (key : Key) (found : Record) (b : Bool) → record_at key state.records ≡ Some found → is_tracked key state.tickets ≡ b → clear state key ≡ (if b then (InUse, state) else (Removed, without_record state key))
clear-tracked state key found b there tracked =
    ap (λ o. if not (is_some o) then (Absent, state) else (if is_tracked key state.tickets then (InUse, state) else (Removed, without_record state key))) there
    ∙ ap (λ (t : Bool). if t then (InUse, state) else (Removed, without_record state key)) tracked

lt-some : (n : ℕ) → 0 < n → nat_lt 0 n ≡ true
lt-some n some = grind (arith, nat_tests)

lt-none : (n : ℕ) → n ≤ 0 → nat_lt 0 n ≡ false
lt-none n none = grind (arith, nat_tests)

module _ (spec : Spec) (clock events : ℕ) (s : Stock) (book : Tickets) (table : IsTable spec clock events s book) (state : State) (is : state_of spec clock events s book ≡ state) (key : Key) where
  pub cleared-absent : IsAbsent s key → clear state key ≡ (Absent, state)
  cleared-absent none = clear-absent state key (ap (λ (x : State). record_at key x.records) (sym is) ∙ record-absent spec clock events s book table key none)

  module _ (handle : Handle) (at : IsAt s key handle) (e : Entry) (named : option_map (λ (h : Held). h.entry) (held_at s handle.slot) ≡ Some e) where
    entry-is : at.held.entry ≡ e
    entry-is = same_some (sym (ap (option_map (λ (h : Held). h.entry)) at.there) ∙ named)

    there : record_at key state.records ≡ Some (record_of spec.expire at.held)
    there = ap (λ (x : State). record_at key x.records) (sym is) ∙ record-found spec clock events s book table key handle at

    tracked : is_tracked key state.tickets ≡ nat_lt 0 e.refs
    tracked = ap (λ (x : State). is_tracked key x.tickets) (sym is) ∙ tracked-is spec clock events s book table key handle at ∙ ap (λ (x : Entry). nat_lt 0 x.refs) entry-is

    pub cleared-in-use : 0 < e.refs → clear state key ≡ (InUse, state)
    cleared-in-use some = clear-tracked state key (record_of spec.expire at.held) true there (tracked ∙ lt-some e.refs some)

    pub clear-free : e.refs ≤ 0 → IsFree s handle.slot
    clear-free none = let one : at.held.entry.refs ≡ e.refs = ap (λ (x : Entry). x.refs) entry-is in record { held = at.held; there = at.there; alone = omega (arith, one, none) }

    pub clear-queued : e.refs ≤ 0 → Contains s.queue handle.slot
    clear-queued none = (table.stock.queued handle.slot).1 (clear-free none)

    pub cleared-table : e.refs ≤ 0 → (new : Stock) → new ≡ without_slot s handle.slot → IsTable spec clock events new book
    cleared-table none new left = subst (λ (x : Stock). IsTable spec clock events x book) (sym left) (removed-table spec clock events s book table handle.slot (clear-free none))

    pub cleared-removed : e.refs ≤ 0 → (new : Stock) → new ≡ without_slot s handle.slot → clear state key ≡ (Removed, state_of spec clock events new book)
    unfolding clear-free
    cleared-removed none new left =
        clear-tracked state key (record_of spec.expire at.held) false there (tracked ∙ lt-none e.refs none)
        ∙ ap (λ (x : State). (Removed, x))
        (ap (λ (k : Key). without_record state k) (sym at.keyed) ∙ ap (λ (x : State). without_record x at.held.key) (sym is) ∙ sym (removed-state spec clock events s book table handle.slot (clear-free none)) ∙ ap (λ (x : Stock). state_of spec clock events x book) (sym left))

pub at-some : (s : Stock) (key : Key) (handle : Handle) → IsAt s key handle → IsSome (held_at s handle.slot)
at-some s key handle at = ap is_some at.there
