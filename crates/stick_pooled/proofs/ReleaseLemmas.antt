-- A release: its ticket goes, and its entry has one reference less, and is refreshed.
use Rattle.std.proofs.Common.{◌≡◌, ◌≢◌, ℕ, ◌+◌, ◌-◌, ◌<◌, refl, sym, ◌∙◌, ap, arith, map, filter, set, cond, not, Option, Some, None, unwrap_or}
use Rattle.std.specs.Option.{option_map, option_map_or}
use Rattle.std.specs.Map.{set_value}
use Rattle.stick_pooled.specs.Stock.{Held, Stock, held_at, with_entry, key_in}
use Rattle.stick_pooled.proofs.StockLemmas.{none_some}
use Rattle.stick_pooled.specs.Tickets.{Tickets, entry_of, without_ticket}
use Rattle.stick_model.specs.Key.{Key, same_key}
use Rattle.stick_model.specs.State.{State, refs, key_of, same_ticket, zero_record, touched}
use Rattle.stick_model.specs.Step.{Outcome, release, released_at}
use Rattle.stick_model.specs.declared.replies.Reply.TheVariants.{Absent, Released}
use Rattle.stick_model.specs.declared.rows.Ticket.{Ticket}
use Rattle.stick_model.specs.declared.rows.Record.{Record}
use Rattle.stick_model.specs.declared.specification.Spec.{Spec}
use Rattle.stick_model.proofs.KeyLemmas.{same_key-refl}
use Rattle.stick_pooled.specs.Shown.{record_of, records_of}
use Rattle.stick_pooled.specs.Steps.{with_event}
use Rattle.stick_pooled.specs.Table.{with_key, tickets_of, state_of, IsTable}
use Rattle.stick_pooled.proofs.RecordLemmas.{lookup-at}
use Rattle.stick_pooled.proofs.CountLemmas.{lookup-keys}
use Rattle.stick_pooled.proofs.WriteLemmas.{tickets-written, held-written}
use Rattle.stick_pooled.proofs.RefreshLemmas.{fresh, refresh-written, refreshed-table}
use Rattle.stick_pooled.proofs.StoredLemmas.{rewritten-records}
use Rattle.stick_pooled.proofs.TicketLemmas.{drop-keys, refs-less, next-fewer}

module _ (spec : Spec) (clock events : ℕ) (s : Stock) (book : Tickets) (table : IsTable spec clock events s book) (ticket : Ticket) (slot : ℕ) (out : entry_of ticket book ≡ Some slot) (h : Held) (there : held_at s slot ≡ Some h) where
  abbrev less : Stock
  less = with_entry s slot (fresh clock events (h.entry.refs - 1))

  release-fewer : (key : Key) → refs key (tickets_of less (without_ticket book ticket)) + cond (same_key key h.key) 1 0 ≡ refs key (tickets_of s book)
  release-fewer key =
      let w = refresh-written s slot h there (fresh clock events (h.entry.refs - 1)) in
      let counts = refs-less less ticket key book.tickets slot out table.numbered in
      let same : refs key (map (with_key less) book.tickets) ≡ refs key (tickets_of s book) = ap (refs key) (tickets-written s less slot (record h { entry = fresh clock events (h.entry.refs - 1) }) w book.tickets table.held) in
      let own : ◌≡◌ {A = ℕ} (cond (same_key key (key_in (held_at less slot))) 1 0) (cond (same_key key h.key) 1 0) = ap (λ (o : Option Held). cond {A = ℕ} (same_key key (key_in o)) 1 0) w.here in
      omega (arith, counts, same, own)

  -- its entry has a reference
  pub release-some : 0 < h.entry.refs
  release-some =
      let counts = release-fewer h.key in
      let own : ◌≡◌ {A = ℕ} (cond (same_key h.key h.key) 1 0) 1 = ap (λ b. cond {A = ℕ} b 1 0) (same_key-refl h.key) in
      let all = table.counted slot h there in
      omega (arith, counts, own, all)

  some-out : entry_of ticket book ≢ None
  some-out none = none_some (sym none ∙ out)

  pub released-table : IsTable spec clock (events + 1) (with_entry s slot (fresh clock events (h.entry.refs - 1))) (without_ticket book ticket)
  released-table =
      let w = refresh-written s slot h there (fresh clock events (h.entry.refs - 1)) in
      let it : Held = record h { entry = fresh clock events (h.entry.refs - 1) } in
      refreshed-table spec clock events s book table slot h there (h.entry.refs - 1) (without_ticket book ticket)
      (next-fewer spec clock events s book table less ticket (tickets-written s less slot it w book.tickets table.held) (held-written s less slot it w book.tickets table.held) some-out)
      (let counts = release-fewer h.key in
      let own : ◌≡◌ {A = ℕ} (cond (same_key h.key h.key) 1 0) 1 = ap (λ b. cond {A = ℕ} b 1 0) (same_key-refl h.key) in
      let all = table.counted slot h there in
      omega (arith, counts, own, all))
      (λ key apart.
      let counts = release-fewer key in
      let none : ◌≡◌ {A = ℕ} (cond (same_key key h.key) 1 0) 0 = ap (λ b. cond {A = ℕ} b 1 0) apart in
      omega (arith, counts, none))

  pub released-is : release (with_event (state_of spec clock events s book)) ticket ≡ (Released, state_of spec clock (events + 1) (with_entry s slot (fresh clock events (h.entry.refs - 1))) (without_ticket book ticket))
  released-is =
      let w = refresh-written s slot h there (fresh clock events (h.entry.refs - 1)) in
      let it : Held = record h { entry = fresh clock events (h.entry.refs - 1) } in
      let state : State = state_of spec clock (events + 1) s book in
      let named : key_of ticket (tickets_of s book) ≡ Some h.key = lookup-keys s (same_ticket ticket) book.tickets ∙ ap (option_map (λ i. key_in (held_at s i))) out ∙ ap (λ (o : Option Held). Some (key_in o)) there in
      let slots : less.slots ≡ set s.slots slot (Some it) = ap (λ (o : Option Held). set s.slots slot (option_map (λ (held : Held). record held { entry = fresh clock events (h.entry.refs - 1) }) o)) there in
      let records : records_of spec.expire less ≡ set_value (same_key h.key) (records_of spec.expire s) (record_of spec.expire it) = rewritten-records spec.expire s less table.stock slot it slots h there refl in
      let tickets : tickets_of less (without_ticket book ticket) ≡ filter (λ (held : Ticket × Key). not (same_ticket ticket held.0)) (tickets_of s book) =
      drop-keys less ticket book.tickets ∙ ap (filter (λ (held : Ticket × Key). not (same_ticket ticket held.0))) (tickets-written s less slot it w book.tickets table.held) in
      ap (λ o. option_map_or {U = Outcome} (λ key. (Released, released_at state ticket key)) o (Absent, state)) named
      ∙ ap (λ (o : Option Record). (Released, record state { records = set_value (same_key h.key) (records_of spec.expire s) (touched state (unwrap_or o (zero_record spec.columns))); tickets = filter (λ (held : Ticket × Key). not (same_ticket ticket held.0)) (tickets_of s book) })) (lookup-at spec.expire s table.stock slot h there)
      ∙ (λ i. (Released, record state { records = sym records i; tickets = sym tickets i }))
