-- What is asked of a ticket that is out is answered from the entry of its key.
use Rattle.std.proofs.Common.{◌≡◌, ℕ, ◌≤◌, max, refl, sym, ◌∙◌, ap, arith, List, [], ◌∷◌, true, false, cond, Option, Some, None, is_some}
use Rattle.std.specs.Option.{option_map_or, option_and_then}
use Rattle.std.proofs.lemmas.Bool.{false≢true}
use Rattle.std.proofs.lemmas.List.Sums.{sum_by-cons}
use Rattle.stored_data.specs.Acts.{answer}
use Rattle.stick_model.specs.Key.{Key, same_key}
use Rattle.stick_model.specs.State.{State, same_ticket, key_of, refs, is_tracked, record_at, row_of, stays}
use Rattle.stick_model.specs.Step.{Outcome, Step, begun, get, counted_at, released_at, ticket_of}
use Rattle.stick_model.specs.Laws.{IsAnswered, IsAnsweredFrom, ReferenceLaw}
use Rattle.stick_model.specs.declared.rows.Ticket.{Ticket}
use Rattle.stick_model.specs.declared.rows.Record.{Record}
use Rattle.stick_model.specs.declared.events.Event.{Event}
use Rattle.stick_model.specs.declared.events.Event.TheVariants.{Get, Track, Look, Count, Release, Put, Clear, ClearWhere, List as ListRows, Expire}
use Rattle.stick_model.specs.declared.replies.Reply.{Reply}
use Rattle.stick_model.specs.declared.replies.Reply.TheVariants.{Absent, Row as ARow, Value, Released}
use Rattle.stick_model.proofs.KeyLemmas.{same_key-refl}
use Rattle.stick_model.proofs.TestLemmas.{lt-to}
use Rattle.stick_model.proofs.RecordLemmas.{lookup-kept}
use Rattle.stick_model.proofs.LegalLemmas.{IsOrderly, orderly-from_legal, stays-keeps}
use Rattle.stick_model.proofs.FateLemmas.{tracked-found}

-- the key of a ticket that is out has a reference
pub refs-some : (ticket : Ticket) (key : Key) (tickets : List (Ticket × Key)) → key_of ticket tickets ≡ Some key → 1 ≤ refs key tickets
refs-some ticket key [] out = cc
refs-some ticket key (held ∷ tickets) out =
    elim (same_ticket ticket held.0) as (λ b. cond b (Some held.1) (key_of ticket tickets) ≡ Some key → 1 ≤ refs key (held ∷ tickets)) [
      | true ↦ λ here. let is : held.1 ≡ key = cc in let one : ◌≡◌ {A = ℕ} (cond (same_key key held.1) 1 0) 1 = ap (λ b. cond b 1 0) (ap (same_key key) is ∙ same_key-refl key) in omega (arith, one, sum_by-cons (λ (h : Ticket × Key). cond (same_key key h.1) 1 0) held tickets)
      | false ↦ λ later. omega (arith, refs-some ticket key tickets later, sum_by-cons (λ (h : Ticket × Key). cond (same_key key h.1) 1 0) held tickets)
    ] out

-- a look at a key that has a record
got-row : (old : State) (now : ℕ) (key : Key) (found : Record) → record_at key (begun old now).records ≡ Some found → (get (begun old now) key).0 ≡ ARow (row_of old.spec.columns (max old.clock now) (refs key old.tickets) key found)
got-row old now key found is = ap (λ o. option_map_or (λ r. ARow (row_of old.spec.columns (max old.clock now) (refs key old.tickets) key r)) o Absent) is

-- an event of a ticket that is out
answer_of : (old : State) (event : Event) (reply : Reply) (new : State) (ticket : Ticket) (key : Key) (found : Record) → Step old event reply new → ticket_of event ≡ Some ticket → key_of ticket old.tickets ≡ Some key
    → ((now : ℕ) → record_at key (begun old now).records ≡ Some found) → IsAnswered old key found event reply
answer_of old (Look now named) reply new ticket key found step names out is =
    let one : named ≡ ticket = cc in
    sym (ap (λ (o : Outcome). o.0) step.gives) ∙ ap (λ o. (option_map_or (get (begun old now)) o (Absent, begun old now)).0) (ap (λ t. key_of t old.tickets) one ∙ out) ∙ got-row old now key found (is now)
answer_of old (Count now named act) reply new ticket key found step names out is =
    let one : named ≡ ticket = cc in
    sym (ap (λ (o : Outcome). o.0) step.gives) ∙ ap (λ o. (option_map_or (λ k. counted_at (begun old now) k act) o (Absent, begun old now)).0) (ap (λ t. key_of t old.tickets) one ∙ out)
    ∙ ap (λ o. Value (option_and_then (λ (kept : Record). answer kept.values (max old.clock now) act) o)) (is now)
answer_of old (Release now named) reply new ticket key found step names out is =
    let one : named ≡ ticket = cc in
    sym (ap (λ (o : Outcome). o.0) step.gives) ∙ ap (λ o. (option_map_or {U = Outcome} (λ k. (Released, released_at (begun old now) named k)) o (Absent, begun old now)).0) (ap (λ t. key_of t old.tickets) one ∙ out)
answer_of old (Get now subject) reply new ticket key found step names out is = cc
answer_of old (Track now subject) reply new ticket key found step names out is = cc
answer_of old (Put now subject pairs) reply new ticket key found step names out is = cc
answer_of old (Clear now subject) reply new ticket key found step names out is = cc
answer_of old (ClearWhere now choice) reply new ticket key found step names out is = cc
answer_of old (ListRows now choice) reply new ticket key found step names out is = cc
answer_of old (Expire now) reply new ticket key found step names out is = cc

pub reference-law : ReferenceLaw
reference-law old event reply new ticket key legal step names out =
    let orderly : IsOrderly old = orderly-from_legal old legal in
    let some : 1 ≤ refs key old.tickets = refs-some ticket key old.tickets out in
    let tracked : is_tracked key old.tickets ≡ true = lt-to 0 (refs key old.tickets) (omega arith) in
    ending (record_at key old.records) refl (tracked-found key old.records old.tickets orderly.sound.keys_held tracked) some
    (λ now. lookup-kept old.tickets (stays (begun old now).clock old.tickets) key old.records (stays-keeps (begun old now).clock old.tickets) tracked)
  where
    ending : (o : Option Record) → record_at key old.records ≡ o → is_some o ≡ true → 1 ≤ refs key old.tickets → ((now : ℕ) → record_at key (begun old now).records ≡ record_at key old.records)
        → IsAnsweredFrom old key event reply
    ending None was there some through = absurd (false≢true there)
    ending (Some found) was there some through = record { found = found; is = was; held = some; answered = answer_of old event reply new ticket key found step names out (λ now. through now ∙ was) }
