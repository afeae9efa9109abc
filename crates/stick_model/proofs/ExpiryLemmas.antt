-- No untracked record is kept past its date.
use Rattle.std.proofs.Common.{◌≡◌, ℕ, ◌+◌, ◌≤◌, refl, sym, ◌∙◌, ap, subst, arith, List, [], ◌∷◌, ◌++◌, map, filter, Bool, true, false, cond, not, ◌&&◌, ◌||◌, nat_eq, nat_lt, Option, Some, None, unwrap_or, ◌⊎◌, inl, inr}
use Rattle.std.specs.Prelude.{IfSome}
use Rattle.std.specs.List.{AllByRecursion, IsDistinct}
use Rattle.std.specs.List.Sorted.{IsStrictlySortedBy}
use Rattle.std.specs.Map.{keys_of, lookup, set_value}
use Rattle.std.specs.Option.{option_map, option_map_or}
use Rattle.std.specs.Cmp.Lexicographic.{nat_list_cmp_total}
use Rattle.std.proofs.lemmas.Bool.{false≢true}
use Rattle.std.proofs.lemmas.List.Sums.{sum_by-append, sum_by-cons}
use Rattle.stored_data.specs.Acts.{acted}
use Rattle.stick_model.specs.Key.{Key, key_cmp, same_key}
use Rattle.stick_model.specs.State.{State, empty_table, same_ticket, key_of, refs, is_tracked, record_at, zero_record, touched, outlives, stays}
use Rattle.stick_model.specs.Filters.{is_matched}
use Rattle.stick_model.specs.Step.{Step, begun, found_or_zero, connected, written}
use Rattle.stick_model.specs.Run.{Run}
use Rattle.stick_model.specs.Limits.{moment_of}
use Rattle.stick_model.specs.Legal.{number_in}
use Rattle.stick_model.specs.Laws.{ExpiryLaw}
use Rattle.stick_model.specs.declared.rows.Ticket.{Ticket}
use Rattle.stick_model.specs.declared.rows.Record.{Record}
use Rattle.stick_model.specs.declared.specification.Spec.{Spec}
use Rattle.stick_model.specs.declared.events.Event.{Event}
use Rattle.stick_model.specs.declared.replies.Reply.{Reply}
use Rattle.stick_model.proofs.TestLemmas.{and-left, eq-from, lt-from, lt-to}
use Rattle.stick_model.proofs.KeyLemmas.{same_key-exact}
use Rattle.stick_model.proofs.EntryLemmas.{sorted-filter, lookup-filter-cases, lookup-set}
use Rattle.stick_model.proofs.StepCases.{Happens, idles, tracks, counts, releases, writes, removes, clears, happened}
use Rattle.stick_model.proofs.StepLemmas.{step_spec}
use Rattle.stick_model.proofs.RecordLemmas.{IsStored, is-stored, stored-found}
use Rattle.stick_model.proofs.LegalLemmas.{IsOrderly, orderly-from_legal, step_orderly, empty_legal}

-- what a look-up finds after a filter passes it
lookup-passes : {K X : Type 0} (test : K → Bool) (q : K × X → Bool) (es : List (K × X)) (x : X) → lookup test (filter q es) ≡ Some x → (k : K) × (test k ≡ true) × (q (k, x) ≡ true)
lookup-passes test q [] x h = cc
lookup-passes test q (e ∷ es) x h =
    elim (q e) as (λ b. q e ≡ b → lookup test (cond b (e ∷ filter q es) (filter q es)) ≡ Some x → (k : _) × (test k ≡ true) × (q (k, x) ≡ true)) [
      | true ↦ λ passes h. elim (test e.0) as (λ b. test e.0 ≡ b → cond b (Some e.1) (lookup test (filter q es)) ≡ Some x → (k : _) × (test k ≡ true) × (q (k, x) ≡ true)) [
        | true ↦ λ here h. let is : e.1 ≡ x = cc in (e.0, here, subst (λ y. q (e.0, y) ≡ true) is passes)
        | false ↦ λ _ h. lookup-passes test q es x h
      ] refl h
      | false ↦ λ _ h. lookup-passes test q es x h
    ] refl h

-- ---- tracked keys
tracked-more : (key : Key) (tickets more : List (Ticket × Key)) → is_tracked key tickets ≡ true → is_tracked key (tickets ++ more) ≡ true
tracked-more key tickets more h =
    let some = lt-from 0 (refs key tickets) h in
    lt-to 0 (refs key (tickets ++ more)) (omega (arith, sum_by-append (λ (held : Ticket × Key). cond (same_key key held.1) 1 0) tickets more))

without-none : (ticket : Ticket) (n : ℕ) (tickets : List (Ticket × Key)) → ticket.number ≡ n → AllByRecursion (λ m. nat_eq n m ≡ false) (map number_in tickets) → filter (λ (held : Ticket × Key). not (same_ticket ticket held.0)) tickets ≡ tickets
without-none ticket n [] is differ = refl
without-none ticket n (held ∷ tickets) is differ =
    let apart : same_ticket ticket held.0 ≡ false = ap (λ m. nat_eq m held.0.number && nat_eq ticket.slot held.0.slot) is ∙ ap (λ b. b && nat_eq ticket.slot held.0.slot) differ.0 in
    ap (λ b. cond (not b) (held ∷ filter (λ (held : Ticket × Key). not (same_ticket ticket held.0)) tickets) (filter (λ (held : Ticket × Key). not (same_ticket ticket held.0)) tickets)) apart ∙ ap (λ ts. held ∷ ts) (without-none ticket n tickets is differ.1)

-- a ticket that is given back leaves the references of other keys
refs-without : (ticket : Ticket) (key other : Key) (tickets : List (Ticket × Key)) → IsDistinct nat_eq (map number_in tickets) → key_of ticket tickets ≡ Some key → same_key other key ≡ false
    → refs other (filter (λ (held : Ticket × Key). not (same_ticket ticket held.0)) tickets) ≡ refs other tickets
unfolding IsDistinct
refs-without ticket key other [] differ out apart = refl
refs-without ticket key other (held ∷ tickets) differ out apart =
    let one : Ticket × Key → ℕ = λ h. cond (same_key other h.1) 1 0 in
    elim (same_ticket ticket held.0) as (λ b. same_ticket ticket held.0 ≡ b → cond b (Some held.1) (key_of ticket tickets) ≡ Some key
    → refs other (cond (not b) (held ∷ filter (λ (held : Ticket × Key). not (same_ticket ticket held.0)) tickets) (filter (λ (held : Ticket × Key). not (same_ticket ticket held.0)) tickets)) ≡ refs other (held ∷ tickets)) [
      | true ↦ λ is here.
          let key_is : held.1 ≡ key = cc in
          let none : ◌≡◌ {A = ℕ} (one held) 0 = ap (λ b. cond b 1 0) (ap (same_key other) key_is ∙ apart) in
          let same_number = eq-from ticket.number held.0.number (and-left (nat_eq ticket.number held.0.number) (nat_eq ticket.slot held.0.slot) is) in
          ap (refs other) (without-none ticket held.0.number tickets same_number differ.0) ∙ (let sum = sum_by-cons one held tickets in omega (arith, none, sum))
      | false ↦ λ _ later. let rest = refs-without ticket key other tickets differ.1 later apart in omega (arith, rest, sum_by-cons one held tickets, sum_by-cons one held (filter (λ (held : Ticket × Key). not (same_ticket ticket held.0)) tickets))
    ] refl out

-- ---- a record that is refreshed outlives the clock
refreshed : (clock : ℕ) (expire : Option ℕ) → IfSome expire (λ life. 1 ≤ life) → option_map_or (λ date. nat_lt clock date) (option_map (λ life. clock + life) expire) true ≡ true
refreshed clock None some = refl
refreshed clock (Some life) some = lt-to clock (clock + life) (omega arith)

either-true : (a b : Bool) → (a ≡ true) ⊎ (b ≡ true) → a || b ≡ true
either-true true b h = refl
either-true false b (inl h) = absurd (false≢true h)
either-true false b (inr h) = h

from-either : (a b : Bool) → a || b ≡ true → (a ≡ true) ⊎ (b ≡ true)
from-either true b h = inl refl
from-either false b h = inr h

-- each record is tracked or outlives the clock
abbrev AreTimely : ℕ → List (Ticket × Key) → List (Key × Record) → Type 0
AreTimely clock tickets records = (key : Key) (found : Record) → record_at key records ≡ Some found → (is_tracked key tickets ≡ true) ⊎ (outlives clock found ≡ true)

timely-begun : (old : State) (now : ℕ) → AreTimely (begun old now).clock old.tickets (begun old now).records
timely-begun old now key found is =
    let passes = lookup-passes (same_key key) (stays (begun old now).clock old.tickets) old.records found is in
    let one : key ≡ passes.0 = same_key-exact key passes.0 passes.1 in
    elim (from-either (is_tracked passes.0 old.tickets) (outlives (begun old now).clock found) passes.2) [ inl tracked ↦ inl (ap (λ k. is_tracked k old.tickets) one ∙ tracked) | inr outlived ↦ inr outlived ]

timely-filter : (clock : ℕ) (tickets : List (Ticket × Key)) (records : List (Key × Record)) (q : Key × Record → Bool) → IsStrictlySortedBy key_cmp (keys_of records) → AreTimely clock tickets records → AreTimely clock tickets (filter q records)
timely-filter clock tickets records q sorted timely key found is =
    elim (lookup-filter-cases key_cmp nat_list_cmp_total key q records sorted) [ inl same ↦ timely key found (sym same ∙ is) | inr none ↦ absurd (cc) ]

timely-stored : (spec : Spec) (clock : ℕ) (tickets : List (Ticket × Key)) (records : List (Key × Record)) (subject : Key) (w : Record) (new : List (Key × Record)) → IsStored spec tickets records subject w new → outlives clock w ≡ true
    → IsStrictlySortedBy key_cmp (keys_of records) → AreTimely clock tickets records → AreTimely clock tickets new
timely-stored spec clock tickets records subject w new stored outlived sorted timely key found is =
    let now = stored-found spec tickets records subject w new stored key in
    elim (same_key key subject) as (λ b. cond b (Some w) (record_at key stored.roomy) ≡ Some found → (is_tracked key tickets ≡ true) ⊎ (outlives clock found ≡ true)) [
      | true ↦ λ here. let one : w ≡ found = cc in inr (ap (outlives clock) (sym one) ∙ outlived)
      | false ↦ λ there. elim (stored.room.fewer key sorted) [ inl same ↦ timely key found (sym same ∙ there) | inr none ↦ absurd (cc) ]
    ] (sym now ∙ is)

timely-written : (clock : ℕ) (tickets : List (Ticket × Key)) (records : List (Key × Record)) (subject : Key) (w : Record) → ((key : Key) (found : Record) → same_key key subject ≡ true → record_at key records ≡ Some found → (is_tracked key tickets ≡ true) ⊎ (outlives clock w ≡ true))
    → ((key : Key) (found : Record) → same_key key subject ≡ false → record_at key records ≡ Some found → (is_tracked key tickets ≡ true) ⊎ (outlives clock found ≡ true)) → AreTimely clock tickets (set_value (same_key subject) records w)
timely-written clock tickets records subject w here other key found is =
    let now = lookup-set key_cmp nat_list_cmp_total subject key records w in
    elim (same_key key subject) as (λ b. same_key key subject ≡ b → cond b (option_map (λ _. w) (record_at key records)) (record_at key records) ≡ Some found → (is_tracked key tickets ≡ true) ⊎ (outlives clock found ≡ true)) [
      | true ↦ λ same is. there same (record_at key records) refl is
      | false ↦ λ differ is. other key found differ is
    ] refl (sym now ∙ is)
  where
    there : same_key key subject ≡ true → (o : Option Record) → record_at key records ≡ o → option_map (λ _. w) o ≡ Some found → (is_tracked key tickets ≡ true) ⊎ (outlives clock found ≡ true)
    there same None was is = cc
    there same (Some before) was is = let one : w ≡ found = cc in elim (here key before same was) [ inl tracked ↦ inl tracked | inr outlived ↦ inr (ap (outlives clock) (sym one) ∙ outlived) ]

step_timely : (old : State) (event : Event) (reply : Reply) (new : State) → IfSome old.spec.expire (λ life. 1 ≤ life) → IsOrderly old → Step old event reply new → AreTimely new.clock new.tickets new.records
step_timely old event reply new life orderly step = go (happened old event reply new step)
  where
    sorted : (now : ℕ) → IsStrictlySortedBy key_cmp (keys_of (begun old now).records)
    sorted now = sorted-filter (λ (entry : Key × Record). entry.0) key_cmp (stays (begun old now).clock old.tickets) old.records orderly.sound.keys_rise

    go : {slot : ℕ} {event : Event} {reply : Reply} {new : State} → Happens old slot event reply new → AreTimely new.clock new.tickets new.records
    go (idles event reply quiet idle) = timely-begun old (moment_of event)
    go {slot} (tracks now subject records room) = λ key found is.
        let state : State = begun old now in
        let w : Record = connected state subject in
        elim (timely-stored old.spec state.clock old.tickets state.records subject w records (is-stored old.spec old.tickets state.records subject w records room) (refreshed state.clock old.spec.expire life) (sorted now) (timely-begun old now) key found is) [
          | inl tracked ↦ inl (tracked-more key old.tickets ((record { number = old.events + 1; slot = slot }, subject) ∷ []) tracked)
          | inr outlived ↦ inr outlived
        ]
    go (counts now ticket act subject out) =
        let state : State = begun old now in
        timely-written state.clock old.tickets state.records subject (record (found_or_zero state subject) { values = acted (found_or_zero state subject).values state.clock act })
        (λ key found same is. elim (timely-begun old now key found is) [ inl tracked ↦ inl tracked | inr outlived ↦ inr (ap (λ k. outlives state.clock (found_or_zero state k)) (sym (same_key-exact key subject same)) ∙ ap (λ o. outlives state.clock (unwrap_or o (zero_record old.spec.columns))) is ∙ outlived) ])
        (λ key found _ is. timely-begun old now key found is)
    go (releases now ticket subject out) =
        let state : State = begun old now in
        let left : List (Ticket × Key) = filter (λ (held : Ticket × Key). not (same_ticket ticket held.0)) old.tickets in
        timely-written state.clock left state.records subject (touched state (found_or_zero state subject)) (λ key found same is. inr (refreshed state.clock old.spec.expire life))
        (λ key found differ is. elim (timely-begun old now key found is) [ inl tracked ↦ inl (ap (λ n. nat_lt 0 n) (refs-without ticket subject key old.tickets orderly.numbered.numbers_differ out differ) ∙ tracked) | inr outlived ↦ inr outlived ])
    go (writes now subject pairs created records room) =
        let state : State = begun old now in
        let w : Record = written state subject pairs in
        timely-stored old.spec state.clock old.tickets state.records subject w records (is-stored old.spec old.tickets state.records subject w records room) (refreshed state.clock old.spec.expire life) (sorted now) (timely-begun old now)
    go (removes now subject free) = timely-filter (begun old now).clock old.tickets (begun old now).records (λ (entry : Key × Record). not (same_key subject entry.0)) (sorted now) (timely-begun old now)
    go (clears now choice) =
        let state : State = begun old now in
        timely-filter state.clock old.tickets state.records (λ entry. not (is_matched state.clock old.tickets choice false entry)) (sorted now) (timely-begun old now)

run_timely : (old : State) (events : List Event) (replies : List Reply) (new : State) → IfSome old.spec.expire (λ life. 1 ≤ life) → IsOrderly old → AreTimely old.clock old.tickets old.records → Run old events replies new → AreTimely new.clock new.tickets new.records
run_timely old [] [] new life orderly timely run = subst (λ (s : State). AreTimely s.clock s.tickets s.records) (sym run) timely
run_timely old [] (r ∷ rs) new life orderly timely run = absurd run
run_timely old (e ∷ es) [] new life orderly timely run = absurd run
run_timely old (e ∷ es) (r ∷ rs) new life orderly timely run =
    run_timely run.0 es rs new (subst (λ (spec : Spec). IfSome spec.expire (λ life. 1 ≤ life)) (sym (step_spec old e r run.0 run.1)) life) (step_orderly old e r run.0 orderly run.1) (step_timely old e r run.0 life orderly run.1) run.2

pub expiry-law : ExpiryLaw
expiry-law spec events replies new key found life run is =
    either-true (is_tracked key new.tickets) (outlives new.clock found)
    (run_timely (empty_table spec) events replies new life (orderly-from_legal (empty_table spec) (empty_legal spec)) (λ key found none. cc) run key found is)
