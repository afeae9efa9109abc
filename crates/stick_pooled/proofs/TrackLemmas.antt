-- References that are made.
use Rattle.std.proofs.Common.{◌≡◌, ℕ, ◌+◌, ◌<◌, ◌≤◌, ◌^◌, sym, ◌∙◌, ap, arith, List, [], ◌∷◌, ◌++◌, length, cond, true, Option, Some, None}
use Rattle.std.specs.Prelude.{◌&&◌}
use Rattle.std.specs.Option.{option_map_or}
use Rattle.std.proofs.lemmas.List.{length-map, map-append}
use Rattle.std.proofs.lemmas.List.Sums.{count_by-le-length}
use Rattle.stored_data.specs.Acts.{acted}
use Rattle.stored_data.specs.declared.act.Act.TheVariants.{Connection}
use Rattle.stored_data.specs.declared.values.StoredValue.{StoredValue}
use Rattle.stick_pooled.specs.Stock.{Held, Stock, held_at, key_in}
use Rattle.stick_pooled.specs.Tickets.{Tickets, is_unused, with_ticket}
use Rattle.stick_table.specs.References.{entered}
use Rattle.stick_model.specs.Key.{Key, same_key}
use Rattle.stick_model.specs.State.{State, refs, record_at, is_free}
use Rattle.stick_model.specs.Room.{stored}
use Rattle.stick_model.specs.Step.{is_free_slot, with_ticket as with_ticket_of}
use Rattle.stick_model.specs.declared.rows.Ticket.{Ticket}
use Rattle.stick_model.specs.declared.rows.Record.{Record}
use Rattle.stick_model.specs.declared.specification.Spec.{Spec}
use Rattle.stick_model.proofs.KeyLemmas.{same_key-refl}
use Rattle.stick_model.proofs.TestLemmas.{lt-to}
use Rattle.stick_pooled.specs.Shown.{records_of}
use Rattle.stick_pooled.specs.Space.{IsRoomy, IsFull}
use Rattle.stick_pooled.specs.Table.{with_key, tickets_of, state_of, IsTable}
use Rattle.stick_pooled.proofs.TicketLemmas.{tickets-more, next-more, refs-push, free-place}
use Rattle.stick_pooled.proofs.StoreLemmas.{changed, new-there, there-tickets, there-held, there-at, there-table, there-stored, full-stored, made, newly, newly-written, newly-tickets, newly-held, newly-table, none-out, new-made, made-tickets, made-table, made-stored}

-- what a reference counts
abbrev pub connect : ℕ → List StoredValue → List StoredValue
connect clock values = acted values clock Connection

-- ---- the definition's cases
pub entered-stored : (state : State) (key : Key) (ticket : Ticket) (found : Record) (new : State) → ticket.number ≡ state.events → stored state key found ≡ Some new → entered state key ticket.slot found ≡ (Some ticket, with_ticket_of new ticket key)
entered-stored state key ticket found new number is =
    let made : Ticket = record { number = state.events; slot = ticket.slot } in
    let same : made ≡ ticket = λ i. record { number = sym number i; slot = ticket.slot } in
    ap (λ o. option_map_or {U = Option Ticket × State} (λ roomy. (Some made, with_ticket_of roomy made key)) o (None, state)) is
    ∙ ap {B = Option Ticket × State} (λ (t : Ticket). (Some t, with_ticket_of new t key)) same

pub entered-full : (state : State) (key : Key) (slot : ℕ) (found : Record) → stored state key found ≡ None → entered state key slot found ≡ (None, state)
entered-full state key slot found is =
    let made : Ticket = record { number = state.events; slot = slot } in
    ap (λ o. option_map_or {U = Option Ticket × State} (λ roomy. (Some made, with_ticket_of roomy made key)) o (None, state)) is

-- the tickets with one more, of an entry that is there
push-key : (new : Stock) (book : Tickets) (ticket : Ticket) (slot : ℕ) (h : Held) → held_at new slot ≡ Some h → tickets_of new (with_ticket book ticket slot) ≡ tickets_of new book ++ (ticket, h.key) ∷ []
push-key new book ticket slot h there = map-append (with_key new) book.tickets ((ticket, slot) ∷ []) ∙ ap (λ o. tickets_of new book ++ (ticket, key_in o) ∷ []) there

module _ (spec : Spec) (clock events : ℕ) (s : Stock) (book : Tickets) (table : IsTable spec clock events s book) where
  pub book-room : length (tickets_of s book) < spec.max_refs → length book.tickets < book.capacity
  book-room left = let same = table.capacity in let mapped = length-map book.tickets (with_key s) in omega (arith, left, same, mapped)

  pub number-newer : book.newest < events + 1
  number-newer = let n = table.book_newest in omega (arith, n)

  -- the place of a ticket that the book makes is free
  pub place-free : (place : ℕ) → place < book.capacity → is_unused place book ≡ true → is_free_slot (state_of spec clock events s book) place ≡ true
  place-free place below unused =
      ap (λ b. b && is_free place (tickets_of s book)) (lt-to place spec.max_refs (let same = table.capacity in omega (arith, below, same))) ∙ free-place s book place unused

  pub few-refs : (slot : ℕ) (h : Held) → held_at s slot ≡ Some h → h.entry.refs ≤ 2 ^ 20
  few-refs slot h there =
      let counts = table.counted slot h there in
      let most : refs h.key (tickets_of s book) ≤ length (tickets_of s book) = count_by-le-length _ (tickets_of s book) in
      let all = table.bounded.tickets_ok in
      let limit = table.bounded.spec_ok.max_refs.1 in
      omega (arith, counts, most, all, limit)

  module _ (life : events + length (tickets_of s book) + 2 ≤ spec.life) (left : length (tickets_of s book) < spec.max_refs) (ticket : Ticket) (number : ticket.number ≡ events + 1) where
    module _ (slot : ℕ) (h : Held) (there : held_at s slot ≡ Some h) (change : List StoredValue → List StoredValue) where
      abbrev now-there : Stock
      now-there = new-there spec clock events s book table slot h there change (h.entry.refs + 1)

      more-there : tickets_of now-there (with_ticket book ticket slot) ≡ tickets_of s book ++ (ticket, h.key) ∷ []
      more-there = tickets-more spec clock events s book table now-there ticket slot _ (there-at spec clock events s book table slot h there change (h.entry.refs + 1)) (there-tickets spec clock events s book table slot h there change (h.entry.refs + 1))

      counts-there : (key : Key) → refs key (tickets_of now-there (with_ticket book ticket slot)) ≡ refs key (tickets_of s book) + cond (same_key key h.key) 1 0
      counts-there key = ap (refs key) more-there ∙ refs-push s ticket key (ticket, h.key) (tickets_of s book)

      pub track-there-table : IsTable spec clock (events + 1) now-there (with_ticket book ticket slot)
      track-there-table =
          there-table spec clock events s book table slot h there change (h.entry.refs + 1) (with_ticket book ticket slot)
          (next-more spec clock events s book table now-there ticket slot _ (there-at spec clock events s book table slot h there change (h.entry.refs + 1)) (there-tickets spec clock events s book table slot h there change (h.entry.refs + 1)) (there-held spec clock events s book table slot h there change (h.entry.refs + 1)) number life left)
          (let own : ◌≡◌ {A = ℕ} (cond (same_key h.key h.key) 1 0) 1 = ap (λ b. cond {A = ℕ} b 1 0) (same_key-refl h.key) in
          let was = table.counted slot h there in
          let all = counts-there h.key in
          omega (arith, own, was, all))
          (λ key apart.
          let none : ◌≡◌ {A = ℕ} (cond (same_key key h.key) 1 0) 0 = ap (λ b. cond {A = ℕ} b 1 0) apart in
          let all = counts-there key in
          omega (arith, none, all))

      pub track-there-is : entered (state_of spec clock (events + 1) s book) h.key ticket.slot (changed (state_of spec clock (events + 1) s book) h.key change) ≡ (Some ticket, state_of spec clock (events + 1) now-there (with_ticket book ticket slot))
      track-there-is =
          entered-stored (state_of spec clock (events + 1) s book) h.key ticket (changed (state_of spec clock (events + 1) s book) h.key change) (state_of spec clock (events + 1) now-there book) number
          (there-stored spec clock events s book table slot h there change (h.entry.refs + 1))
          ∙ ap {B = Option Ticket × State} (λ ts. (Some ticket, record (state_of spec clock (events + 1) now-there book) { tickets = ts })) (sym (push-key now-there book ticket slot _ (there-at spec clock events s book table slot h there change (h.entry.refs + 1))))

    module _ (key : Key) (none : record_at key (records_of spec.expire s) ≡ None) (r : Stock) (room : IsRoomy spec s r) (slot : ℕ) (inside : slot < length r.slots) (free : held_at r slot ≡ None) (change : List StoredValue → List StoredValue) where
      abbrev now-made : Stock
      now-made = newly spec clock events s book table key none r room slot inside free 1

      abbrev now-changed : Stock
      now-changed = new-made spec clock events s book table key none r room slot inside free 1 change

      abbrev just-made : Held
      just-made = made spec clock events s book table key none r room slot inside free 1

      made-there : held_at now-made slot ≡ Some just-made
      made-there = (newly-written spec clock events s book table key none r room slot inside free 1).here

      more-made : tickets_of now-made (with_ticket book ticket slot) ≡ tickets_of s book ++ (ticket, key) ∷ []
      more-made = tickets-more spec clock events s book table now-made ticket slot just-made made-there (newly-tickets spec clock events s book table key none r room slot inside free 1)

      counts-made : (other : Key) → refs other (tickets_of now-made (with_ticket book ticket slot)) ≡ refs other (tickets_of s book) + cond (same_key other key) 1 0
      counts-made other = ap (refs other) more-made ∙ refs-push s ticket other (ticket, key) (tickets_of s book)

      pub track-new-table : IsTable spec clock (events + 1) now-changed (with_ticket book ticket slot)
      track-new-table =
          made-table spec clock events s book table key none r room slot inside free 1 change (with_ticket book ticket slot)
          (newly-table spec clock events s book table key none r room slot inside free 1 (with_ticket book ticket slot)
          (next-more spec clock events s book table now-made ticket slot just-made made-there (newly-tickets spec clock events s book table key none r room slot inside free 1) (newly-held spec clock events s book table key none r room slot inside free 1) number life left)
          (let own : ◌≡◌ {A = ℕ} (cond (same_key key key) 1 0) 1 = ap (λ b. cond {A = ℕ} b 1 0) (same_key-refl key) in
          let was = none-out spec clock events s book table key none r room slot inside free 1 in
          let all = counts-made key in
          omega (arith, own, was, all))
          (λ other apart.
          let no_more : ◌≡◌ {A = ℕ} (cond (same_key other key) 1 0) 0 = ap (λ b. cond {A = ℕ} b 1 0) apart in
          let all = counts-made other in
          omega (arith, no_more, all)))

      pub track-new-is : entered (state_of spec clock (events + 1) s book) key ticket.slot (changed (state_of spec clock (events + 1) s book) key change) ≡ (Some ticket, state_of spec clock (events + 1) now-changed (with_ticket book ticket slot))
      track-new-is =
          let tickets : tickets_of now-changed book ++ (ticket, key) ∷ [] ≡ tickets_of now-changed (with_ticket book ticket slot) =
          ap (λ ts. ts ++ (ticket, key) ∷ []) (made-tickets spec clock events s book table key none r room slot inside free 1 change book.tickets)
          ∙ sym (made-tickets spec clock events s book table key none r room slot inside free 1 change (with_ticket book ticket slot).tickets ∙ push-key now-made book ticket slot just-made made-there) in
          entered-stored (state_of spec clock (events + 1) s book) key ticket (changed (state_of spec clock (events + 1) s book) key change) (state_of spec clock (events + 1) now-changed book) number
          (made-stored spec clock events s book table key none r room slot inside free 1 change)
          ∙ ap {B = Option Ticket × State} (λ ts. (Some ticket, record (state_of spec clock (events + 1) now-changed book) { tickets = ts })) tickets

  pub track-full-is : (key : Key) → record_at key (records_of spec.expire s) ≡ None → IsFull spec s → (slot : ℕ) (change : List StoredValue → List StoredValue)
      → entered (state_of spec clock (events + 1) s book) key slot (changed (state_of spec clock (events + 1) s book) key change) ≡ (None, state_of spec clock (events + 1) s book)
  track-full-is key none full slot change =
      entered-full (state_of spec clock (events + 1) s book) key slot (changed (state_of spec clock (events + 1) s book) key change) (full-stored spec clock events s book table key none full change)
