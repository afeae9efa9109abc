-- What is shown of a key that is tracked once more.
use Rattle.std.proofs.Common.{◌≡◌, ◌≢◌, ℕ, ◌+◌, refl, sym, ◌∙◌, ap, List, [], ◌∷◌, ◌++◌, Bool, true, false, cond, not, ◌&&◌, nat_eq, arith, Option, Some, None, IsSome}
use Rattle.std.specs.Prelude.{nat_lt}
use Rattle.std.specs.Option.{option_map, option_map_or}
use Rattle.std.proofs.lemmas.Bool.{and_parts}
use Rattle.std.proofs.lemmas.Bool.Decides.{nat_tests}
use Rattle.stick_table.specs.References.{entered}
use Rattle.stick_table.proofs.TicketLemmas.{refs_more}
use Rattle.stick_model.specs.Key.{Key}
use Rattle.stick_model.specs.State.{State, key_of, is_free, record_at, refs, row, row_of, same_ticket}
use Rattle.stick_model.specs.Room.{stored_in}
use Rattle.stick_model.specs.Step.{begun, connected, is_free_slot, with_ticket as with_ticket_of}
use Rattle.stick_model.specs.declared.rows.Ticket.{Ticket}
use Rattle.stick_model.specs.declared.rows.Record.{Record}
use Rattle.stick_model.specs.declared.rows.Row.{Row}
use Rattle.stick_model.specs.declared.specification.Spec.{Spec}
use Rattle.stick_model.proofs.KeyLemmas.{same_key-refl}
use Rattle.stick_model.proofs.RecordLemmas.{is-stored, stored-found}
use Rattle.stick_pooled.specs.Stock.{Held, Stock, held_at, key_in}
use Rattle.stick_pooled.specs.Tickets.{Tickets, entry_of}
use Rattle.stick_pooled.specs.Shown.{record_of, records_of}
use Rattle.stick_pooled.specs.Table.{tickets_of, state_of, IsTable}
use Rattle.stick_pooled.proofs.StockLemmas.{none_some, same_some}
use Rattle.stick_pooled.proofs.CountLemmas.{lookup-keys, held-of}
use Rattle.stick_pooled.proofs.RecordLemmas.{lookup-at}
use Rattle.stick_pooled.proofs.RowLemmas.{row-shown}

-- ---- a reference that was made
-- a ticket of a place that none has is found behind all others
found-last : (ticket : Ticket) (key : Key) (tickets : List (Ticket × Key)) → is_free ticket.slot tickets ≡ true → key_of ticket (tickets ++ (ticket, key) ∷ []) ≡ Some key
found-last ticket key [] free =
    let number : nat_eq ticket.number ticket.number ≡ true = grind (arith, nat_tests) in
    let slot : nat_eq ticket.slot ticket.slot ≡ true = grind (arith, nat_tests) in
    ap (λ b. cond (b && nat_eq ticket.slot ticket.slot) (Some key) None) number ∙ ap (λ b. cond b (Some key) None) slot
found-last ticket key (held ∷ tickets) free =
    let parts = and_parts (not (nat_eq held.0.slot ticket.slot)) (is_free ticket.slot tickets) free in
    let apart : nat_eq ticket.slot held.0.slot ≡ false = grind (arith, nat_tests) in
    ap (λ b. cond (nat_eq ticket.number held.0.number && b) (Some held.1) (key_of ticket (tickets ++ (ticket, key) ∷ []))) apart
    ∙ never (nat_eq ticket.number held.0.number) ∙ found-last ticket key tickets parts.1
  where
    never : (b : Bool) → cond (b && false) (Some held.1) (key_of ticket (tickets ++ (ticket, key) ∷ [])) ≡ key_of ticket (tickets ++ (ticket, key) ∷ [])
    never true = refl
    never false = refl

-- what a state has in which a reference was made
record IsEntered (state : State) (key : Key) (found : Record) (ticket : Ticket) (new : State) : Type 0 where
  pub spec : new.spec ≡ state.spec
  pub clock : new.clock ≡ state.clock
  pub out : key_of ticket new.tickets ≡ Some key
  pub counted : refs key new.tickets ≡ refs key state.tickets + 1
  pub kept : record_at key new.records ≡ Some found

is-entered : (state : State) (key : Key) (slot : ℕ) (found : Record) (ticket : Ticket) (new : State) → is_free slot state.tickets ≡ true → entered state key slot found ≡ (Some ticket, new) → IsEntered state key found ticket new
is-entered state key slot found ticket new free enters = go (stored_in state.spec state.tickets state.records key found) refl
  where
    made : Ticket
    made = record { number = state.events; slot = slot }

    outcome : Option (List (Key × Record)) → Option Ticket × State
    outcome room = option_map_or {U = Option Ticket × State} (λ roomy. (Some made, with_ticket_of roomy made key)) (option_map (λ rs. record state { records = rs }) room) (None, state)

    go : (room : Option (List (Key × Record))) → stored_in state.spec state.tickets state.records key found ≡ room → IsEntered state key found ticket new
    go None none = absurd (none_some (ap (λ (o : Option Ticket × State). o.0) (sym (ap outcome none) ∙ enters)))
    go (Some records) some =
        let both : ◌≡◌ {A = Option Ticket × State} (Some made, record state { records = records; tickets = state.tickets ++ (made, key) ∷ [] }) (Some ticket, new) = sym (ap outcome some) ∙ enters in
        let same : made ≡ ticket = same_some (ap (λ (o : Option Ticket × State). o.0) both) in
        let after : record state { records = records; tickets = state.tickets ++ (made, key) ∷ [] } ≡ new = ap (λ (o : Option Ticket × State). o.1) both in
        let stored = is-stored state.spec state.tickets state.records key found records some in
        record {
          spec = ap (λ (s : State). s.spec) (sym after);
          clock = ap (λ (s : State). s.clock) (sym after);
          out = ap (λ (s : State). key_of ticket s.tickets) (sym after) ∙ ap (λ (t : Ticket). key_of t (state.tickets ++ (made, key) ∷ [])) (sym same) ∙ found-last made key state.tickets free;
          counted = ap (λ (s : State). refs key s.tickets) (sym after) ∙ refs_more key state.tickets made;
          kept = ap (λ (s : State). record_at key s.records) (sym after) ∙ stored-found state.spec state.tickets state.records key found records stored key ∙ ap (λ b. cond b (Some found) (record_at key stored.roomy)) (same_key-refl key);
        }

-- its row is that of the key's record, with one reference more
entered-row : (state : State) (key : Key) (found : Record) (ticket : Ticket) (new : State) → IsEntered state key found ticket new → row new key found ≡ row_of state.spec.columns state.clock (refs key state.tickets + 1) key found
entered-row state key found ticket new is = λ i. row_of (is.spec i).columns (is.clock i) (is.counted i) key found

-- a copy of the key is shown
module _ (old : State) (now : ℕ) (shown key : Key) (ticket : Ticket) (new : State) (named : shown ≡ key) (free : is_free_slot old ticket.slot ≡ true)
    (enters : entered (begun old now) key ticket.slot (connected (begun old now) key) ≡ (Some ticket, new)) where
  after : IsEntered (begun old now) key (connected (begun old now) key) ticket new
  after = is-entered (begun old now) key ticket.slot (connected (begun old now) key) ticket new (and_parts (nat_lt ticket.slot old.spec.max_refs) (is_free ticket.slot old.tickets) free).1 enters

  pub given-out : key_of ticket new.tickets ≡ Some shown
  given-out = after.out ∙ ap Some (sym named)

  pub given-row : (told : Row) → ((found : Record) → record_at shown new.records ≡ Some found → told ≡ row new shown found)
      → told ≡ row_of old.spec.columns (begun old now).clock (refs key old.tickets + 1) key (connected (begun old now) key)
  given-row told shows =
      shows (connected (begun old now) key) (ap (λ k. record_at k new.records) named ∙ after.kept)
      ∙ ap (λ k. row new k (connected (begun old now) key)) named
      ∙ entered-row (begun old now) key (connected (begun old now) key) ticket new after

-- ---- the row of a reference that is out
-- a ticket that has a key is in the book
pub named-some : (s : Stock) (book : Tickets) (ticket : Ticket) → key_of ticket (tickets_of s book) ≢ None → IsSome (entry_of ticket book)
named-some s book ticket out = go (entry_of ticket book) refl
  where
    go : (o : Option ℕ) → entry_of ticket book ≡ o → IsSome o
    go (Some slot) is = refl
    go None none = absurd (out (lookup-keys s (same_ticket ticket) book.tickets ∙ ap (option_map (λ slot. key_in (held_at s slot))) none))

module _ (spec : Spec) (clock events : ℕ) (s : Stock) (book : Tickets) (table : IsTable spec clock events s book) (ticket : Ticket) (key : Key) (out : key_of ticket (tickets_of s book) ≡ Some key) where
  pub out-some : IsSome (entry_of ticket book)
  out-some = named-some s book ticket (λ none. none_some (sym none ∙ out))

  module _ (slot : ℕ) (is : entry_of ticket book ≡ Some slot) where
    own-key : (h : Held) → held_at s slot ≡ Some h → h.key ≡ key
    own-key h there = ap key_in (sym there) ∙ same_some (sym (lookup-keys s (same_ticket ticket) book.tickets ∙ ap (option_map (λ slot. key_in (held_at s slot))) is) ∙ out)

    pub out-key : option_map (λ (held : Held). held.key) (held_at s slot) ≡ Some key
    out-key =
        let h = held-of spec clock events s book table ticket slot is in
        ap (option_map (λ (held : Held). held.key)) h.1 ∙ ap Some (own-key h.0 h.1)

    pub out-row : (h : Held) (shown : Row) (found : Record) → held_at s slot ≡ Some h → shown ≡ row_of spec.columns clock h.entry.refs h.key (record_of spec.expire h) → record_at key (records_of spec.expire s) ≡ Some found
        → shown ≡ row (state_of spec clock events s book) key found
    out-row h shown found there is_shown is_found =
        let same = own-key h there in
        let kept : record_of spec.expire h ≡ found = same_some (sym (lookup-at spec.expire s table.stock slot h there) ∙ ap (λ k. record_at k (records_of spec.expire s)) same ∙ is_found) in
        is_shown ∙ row-shown spec clock events s book table slot h there ∙ (λ i. row (state_of spec clock events s book) (same i) (kept i))
