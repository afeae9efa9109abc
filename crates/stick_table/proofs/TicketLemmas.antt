-- On the tickets of a key.
use Rattle.stick_model.specs.Room.{stored, stored_in}
use Rattle.std.proofs.Common.{refl, subst, None, ◌≡◌, ℕ, ◌+◌, List, [], ◌∷◌, ◌++◌, arith, ap, sym, ◌∙◌, true, false, cond, length, ◌<◌, nat_le, Some, Option, max, filter, unwrap_or}
use Rattle.std.specs.Option.{option_map, option_map_or}
use Rattle.std.proofs.lemmas.Bool.Decides.{nat_tests}
use Rattle.stick_model.specs.Step.{Outcome, begun, connected, track, tracked, count, counted_at, with_ticket}
use Rattle.stick_table.specs.References.{entered}
use Rattle.stick_model.specs.declared.rows.Row.{Row}
use Rattle.stick_model.specs.declared.rows.Record.{Record}
use Rattle.stick_model.specs.declared.replies.Reply.TheVariants.{NoRefs, Full, Tracked, Absent, Value}
use Rattle.std.specs.Cmp.{eq_by_cmp_equiv}
use Rattle.std.specs.Cmp.Lexicographic.{nat_list_cmp_total}
use Rattle.std.proofs.lemmas.List.Sums.{sum_by-append, sum_by-cons}
use Rattle.stick_model.specs.Key.{Key, same_key}
use Rattle.std.specs.Option.{option_and_then}
use Rattle.std.specs.Map.{set_value}
use Rattle.stored_data.specs.Acts.{acted, answer}
use Rattle.stored_data.specs.declared.act.Act.{Act}
use Rattle.stick_model.specs.State.{State, key_of, record_at, stays, zero_record, refs, row_of}
use Rattle.stick_model.specs.declared.rows.Ticket.{Ticket}

pub same_key_refl : (key : Key) → same_key key key ≡ true
same_key_refl key = (eq_by_cmp_equiv nat_list_cmp_total).refl key

pub refs_more : (key : Key) (tickets : List (Ticket × Key)) (ticket : Ticket) → refs key (tickets ++ (ticket, key) ∷ []) ≡ refs key tickets + 1
refs_more key tickets ticket =
    let one : Ticket × Key → ℕ = λ held. cond (same_key key held.1) 1 0 in
    let joined = sum_by-append one tickets ((ticket, key) ∷ []) in
    let last = sum_by-cons one (ticket, key) [] in
    let it : one (ticket, key) ≡ 1 = ap (λ b. cond b 1 0) (same_key_refl key) in
    omega (arith, joined, last, it)

lt-not_le : (a b : ℕ) → a < b → nat_le b a ≡ false
lt-not_le a b h = grind (arith, nat_tests)

-- where there is a slot and room, the key is tracked
pub track-stored : (state : State) (key : Key) (slot : ℕ) (records : List (Key × Record)) → length state.tickets < state.spec.max_refs
    → stored_in state.spec state.tickets state.records key (connected state key) ≡ Some records
    → let ticket : Ticket = record { number = state.events; slot = slot } in
    track state key slot ≡ (Tracked ticket (row_of state.spec.columns state.clock (refs key state.tickets + 1) key (connected state key)), record state { records = records; tickets = state.tickets ++ (ticket, key) ∷ [] })
track-stored state key slot records left room =
    let kept : Record = connected state key in
    let ticket : Ticket = record { number = state.events; slot = slot } in
    let new : State = record state { records = records; tickets = state.tickets ++ (ticket, key) ∷ [] } in
    ap (λ b. cond {A = Outcome} b (NoRefs, state) (option_map_or (tracked state key kept ticket) (stored state key kept) (Full, state))) (lt-not_le (length state.tickets) state.spec.max_refs left)
    ∙ ap (λ o. option_map_or {U = Outcome} (tracked state key kept ticket) (option_map (λ rs. record state { records = rs }) o) (Full, state)) room
    ∙ ap (λ n. let outcome : Outcome = (Tracked ticket (row_of state.spec.columns state.clock n key kept), new) in outcome) (refs_more key state.tickets ticket)

-- where references are left, and the record that a tracked key gets was entered with one
pub track-entered : (state : State) (key : Key) (slot : ℕ) (found : Record) (shown : Row) (ticket : Ticket) (new : State) → length state.tickets < state.spec.max_refs
    → found ≡ connected state key
    → shown ≡ row_of state.spec.columns state.clock (refs key state.tickets + 1) key found
    → entered state key slot found ≡ (Some ticket, new)
    → track state key slot ≡ (Tracked ticket shown, new)
track-entered state key slot found shown ticket new left is shows enters = by-room (stored_in state.spec state.tickets state.records key found) refl
  where
    by-room : (room : Option (List (Key × Record))) → stored_in state.spec state.tickets state.records key found ≡ room → track state key slot ≡ (Tracked ticket shown, new)
    by-room None none =
        let ticket_made : Ticket = record { number = state.events; slot = slot } in
        let both : ◌≡◌ {A = Option Ticket × State} (None, state) (Some ticket, new) =
        sym (ap (λ o. option_map_or {U = Option Ticket × State} (λ roomy. (Some ticket_made, with_ticket roomy ticket_made key)) (option_map (λ rs. record state { records = rs }) o) (None, state)) none) ∙ enters in
        let never : ◌≡◌ {A = Option Ticket} None (Some ticket) = ap (λ (o : Option Ticket × State). o.0) both in
        cc
    by-room (Some records) some =
        let ticket_made : Ticket = record { number = state.events; slot = slot } in
        let made : State = record state { records = records; tickets = state.tickets ++ (ticket_made, key) ∷ [] } in
        let both : ◌≡◌ {A = Option Ticket × State} (Some ticket_made, made) (Some ticket, new) =
        sym (ap (λ o. option_map_or {U = Option Ticket × State} (λ roomy. (Some ticket_made, with_ticket roomy ticket_made key)) (option_map (λ rs. record state { records = rs }) o) (None, state)) some) ∙ enters in
        let tickets : ◌≡◌ {A = Option Ticket} (Some ticket_made) (Some ticket) = ap (λ (o : Option Ticket × State). o.0) both in
        let same : ticket_made ≡ ticket = cc in
        let after : made ≡ new = ap (λ (o : Option Ticket × State). o.1) both in
        let row : row_of state.spec.columns state.clock (refs key state.tickets + 1) key (connected state key) ≡ shown =
        ap (row_of state.spec.columns state.clock (refs key state.tickets + 1) key) (sym is) ∙ sym shows in
        track-stored state key slot records left (subst (λ f. stored_in state.spec state.tickets state.records key f ≡ Some records) is some)
        ∙ (λ i. (Tracked (same i) (row i), after i))

-- an act on the record of a ticket that is out, among the records that are there when the clock has come to its moment
pub count-found : (old : State) (now : ℕ) (ticket : Ticket) (act : Act) (key : Key) (clock : ℕ) (live records : List (Key × Record)) (told : Option ℕ)
    → clock ≡ max old.clock now
    → live ≡ filter (stays clock old.tickets) old.records
    → key_of ticket old.tickets ≡ Some key
    → ((z : Record) → set_value (same_key key) live (record (unwrap_or (record_at key live) z) { values = acted (unwrap_or (record_at key live) z).values clock act }) ≡ records)
    → told ≡ option_and_then (λ (kept : Record). answer kept.values clock act) (record_at key live)
    → count (begun old now) ticket act ≡ (Value told, record old { clock = clock; events = old.events + 1; records = records })
count-found old now ticket act key clock live records told clock_is live_is out after says =
    let state : State = begun old now in
    let z : Record = zero_record old.spec.columns in
    let lives : live ≡ state.records = live_is ∙ ap (λ t. filter (stays t old.tickets) old.records) clock_is in
    let acts : ℕ → List (Key × Record) → List (Key × Record) =
    λ c es. set_value (same_key key) es (record (unwrap_or (record_at key es) z) { values = acted (unwrap_or (record_at key es) z).values c act }) in
    let says_at : ℕ → List (Key × Record) → Option ℕ = λ c es. option_and_then (λ (kept : Record). answer kept.values c act) (record_at key es) in
    let records_are : acts state.clock state.records ≡ records = (λ i. acts (sym clock_is i) (sym lives i)) ∙ after z in
    let told_is : says_at state.clock state.records ≡ told = sym (says ∙ (λ i. says_at (clock_is i) (lives i))) in
    ap (λ o. option_map_or {U = Outcome} (λ k. counted_at state k act) o (Absent, state)) out
    ∙ (λ i. (Value (told_is i), record state { records = records_are i }))
    ∙ (λ i. (Value told, record old { clock = sym clock_is i; events = old.events + 1; records = records }))
