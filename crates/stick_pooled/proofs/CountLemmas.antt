-- A count: the entry of a ticket, and what an act does to it.
use Rattle.std.proofs.Common.{◌≡◌, ℕ, refl, sym, ◌∙◌, ap, List, [], ◌∷◌, map, Bool, true, false, cond, Option, Some, None, is_some, IsSome, unwrap_or}
use Rattle.std.proofs.lemmas.Bool.{false≢true}
use Rattle.std.specs.List.{AllByRecursion}
use Rattle.std.specs.Map.{lookup}
use Rattle.std.specs.Option.{option_map, option_map_or, option_and_then}
use Rattle.stored_data.specs.Acts.{acted, answer}
use Rattle.stored_data.specs.declared.act.Act.{Act}
use Rattle.stick_pooled.specs.Stock.{Held, Stock, held_at, with_values, key_in}
use Rattle.stick_pooled.proofs.StockLemmas.{none_some, same_some}
use Rattle.stick_pooled.specs.Tickets.{Tickets, entry_of}
use Rattle.stick_model.specs.State.{zero_record, same_ticket}
use Rattle.stick_model.specs.Step.{Outcome, count, counted_at, with_record}
use Rattle.stick_model.specs.declared.replies.Reply.TheVariants.{Absent, Value}
use Rattle.stick_model.specs.declared.rows.Ticket.{Ticket}
use Rattle.stick_model.specs.declared.rows.Record.{Record}
use Rattle.stick_model.specs.declared.specification.Spec.{Spec}
use Rattle.stick_pooled.specs.Table.{with_key, state_of, IsTable}
use Rattle.stick_pooled.proofs.RecordLemmas.{lookup-at}
use Rattle.stick_pooled.proofs.ChangeLemmas.{values-state}

-- the key of a ticket is that of its entry
pub lookup-keys : (s : Stock) (test : Ticket → Bool) (bt : List (Ticket × ℕ)) → lookup test (map (with_key s) bt) ≡ option_map (λ slot. key_in (held_at s slot)) (lookup test bt)
lookup-keys s test [] = refl
lookup-keys s test (t ∷ bt) = go (lookup-keys s test bt) (test t.0)
  where
    go : lookup test (map (with_key s) bt) ≡ option_map (λ slot. key_in (held_at s slot)) (lookup test bt) → (b : Bool) → cond b (Some (key_in (held_at s t.1))) (lookup test (map (with_key s) bt)) ≡ option_map (λ slot. key_in (held_at s slot)) (cond b (Some t.1) (lookup test bt))
    go rest true = refl
    go rest false = rest

-- and its slot has an entry
lookup-held : (s : Stock) (test : Ticket → Bool) (bt : List (Ticket × ℕ)) (slot : ℕ) → lookup test bt ≡ Some slot → AllByRecursion (λ (t : Ticket × ℕ). IsSome (held_at s t.1)) bt → IsSome (held_at s slot)
lookup-held s test [] slot is held = absurd (none_some is)
lookup-held s test (t ∷ bt) slot is held = go (λ later. lookup-held s test bt slot later held.1) (test t.0) is
  where
    go : (lookup test bt ≡ Some slot → IsSome (held_at s slot)) → (b : Bool) → cond b (Some t.1) (lookup test bt) ≡ Some slot → IsSome (held_at s slot)
    go rest true is = ap (λ i. is_some (held_at s i)) (sym (same_some is)) ∙ held.0
    go rest false is = rest is

module _ (spec : Spec) (clock events : ℕ) (s : Stock) (book : Tickets) (table : IsTable spec clock events s book) (ticket : Ticket) where
  pub ticket-held : (slot : ℕ) → entry_of ticket book ≡ Some slot → IsSome (held_at s slot)
  ticket-held slot is = lookup-held s (same_ticket ticket) book.tickets slot is table.held

  pub held-of : (slot : ℕ) → entry_of ticket book ≡ Some slot → (h : Held) × (held_at s slot ≡ Some h)
  held-of slot is = go (held_at s slot) refl (ticket-held slot is)
    where
      go : (o : Option Held) → held_at s slot ≡ o → IsSome o → (h : Held) × (held_at s slot ≡ Some h)
      go None there some = absurd (false≢true some)
      go (Some h) there some = (h, there)

  pub count-absent : (act : Act) → entry_of ticket book ≡ None → count (state_of spec clock events s book) ticket act ≡ (Absent, state_of spec clock events s book)
  count-absent act none =
      ap (λ o. option_map_or {U = Outcome} (λ key. counted_at (state_of spec clock events s book) key act) o (Absent, state_of spec clock events s book)) (lookup-keys s (same_ticket ticket) book.tickets ∙ ap (option_map (λ slot. key_in (held_at s slot))) none)

  pub count-is : (act : Act) (slot : ℕ) (h : Held) (answered : Option ℕ) (new : Stock) → entry_of ticket book ≡ Some slot → held_at s slot ≡ Some h → answered ≡ answer h.values clock act → new ≡ with_values s slot (λ values. acted values clock act)
      → count (state_of spec clock events s book) ticket act ≡ (Value answered, state_of spec clock events new book)
  count-is act slot h answered new is there answers changes =
      ap (λ o. option_map_or {U = Outcome} (λ key. counted_at (state_of spec clock events s book) key act) o (Absent, state_of spec clock events s book))
      (lookup-keys s (same_ticket ticket) book.tickets ∙ ap (option_map (λ slot. key_in (held_at s slot))) is ∙ ap (λ (o : Option Held). Some (key_in o)) there)
      ∙ ap {B = Outcome} (λ (o : Option Record). (Value (option_and_then (λ (kept : Record). answer kept.values clock act) o), with_record (state_of spec clock events s book) h.key (record (unwrap_or o (zero_record spec.columns)) { values = acted (unwrap_or o (zero_record spec.columns)).values clock act }))) (lookup-at spec.expire s table.stock slot h there)
      ∙ (λ i. (Value (sym answers i), (sym (values-state spec clock events s book table slot h (λ values. acted values clock act) there) ∙ ap (λ (x : Stock). state_of spec clock events x book) (sym changes)) i))
