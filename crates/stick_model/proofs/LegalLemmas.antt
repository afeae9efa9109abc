-- A step keeps a state legal.
use Rattle.stick_model.proofs.TestLemmas.{and-left, eq-from, le-from, differ-below}
use Rattle.stick_model.proofs.RecordLemmas.{AreSound, KeepsTracked, sound-filter, sound-later, sound-fewer, sound-refreshed, sound-acted, is-stored, sound-stored, sound-more}
use Rattle.stick_model.proofs.TicketLemmas.{AreNumbered, numbered-later, numbered-fewer, numbered-more}
use Rattle.std.proofs.Common.{◌≡◌, ℕ, ◌+◌, ◌≤◌, ◌<◌, refl, sym, ◌∙◌, ap, subst, arith, List, [], ◌∷◌, ◌++◌, Some, None, length, map, filter, Bool, true, false, cond, not, ◌&&◌, ◌||◌, nat_eq, nat_le, IsTrue, length-append, ◌⊎◌, inl, inr}
use Rattle.std.specs.Prelude.{IsSome}
use Rattle.std.specs.List.{AllByRecursion, IsDistinct}
use Rattle.std.specs.List.Sorted.{IsStrictlySortedBy}
use Rattle.std.specs.Option.{option_map_or}
use Rattle.std.proofs.lemmas.Bool.{false≢true}
use Rattle.std.proofs.lemmas.List.Elements.{recursion_from_All, All-from_recursion}
use Rattle.stick_model.specs.Key.{Key, same_key}
use Rattle.stick_model.specs.State.{State, empty_table, same_ticket, key_of, is_tracked, record_at, zero_record, touched, outlives, stays}
use Rattle.stick_model.specs.Filters.{is_matched, passes}
use Rattle.stored_data.specs.Acts.{acted}
use Rattle.stick_model.specs.Limits.{IsTableEvent, moment_of}
use Rattle.stick_model.specs.declared.filters.Filter.{Filter}
use Rattle.stick_model.specs.Step.{Step, begun, found_or_zero, without_ticket, connected, written, is_free_slot, slot_of}
use Rattle.stick_model.specs.Refusals.{life_taken, has_life}
use Rattle.stick_model.specs.Run.{Run, events_of, StoredRun, LastingRun}
use Rattle.stick_model.specs.Laws.{StepLegalLaw, EmptyLegalLaw, RunLegalLaw}
use Rattle.stick_model.specs.declared.events.Stored.{Stored}
use Rattle.stick_model.proofs.RunLemmas.{run_spec, run_from_stored}
use Rattle.stick_model.specs.Legal.{AreDataOf, IsLegal, number_in, slot_in, stamp_in}
use Rattle.stick_model.proofs.DataLemmas.{HoldData, values_in, step_data, run_data}
use Rattle.stick_model.specs.declared.rows.Ticket.{Ticket}
use Rattle.stick_model.specs.declared.rows.Record.{Record}
use Rattle.stick_model.specs.declared.specification.Spec.{Spec}
use Rattle.stick_model.specs.declared.events.Event.{Event}
use Rattle.stick_model.specs.declared.replies.Reply.{Reply}
use Rattle.stick_model.specs.declared.replies.Reply.TheVariants.{Tracked, Released}
use Rattle.stick_model.specs.declared.rows.Row.{Row}
use Rattle.std.proofs.lemmas.Bool.Decides.{nat_tests}
use Rattle.stick_model.proofs.KeyLemmas.{same_key-exact}
use Rattle.stick_model.proofs.EntryLemmas.{all-map, all-unmap}
use Rattle.stick_model.proofs.StepCases.{IsQuiet, Happens, idles, tracks, counts, releases, writes, removes, clears, happened}
use Rattle.stick_model.proofs.StepLemmas.{step_events, step_spec, step_places, step_tickets, step_tickets-le, quiet-counts, given_by, taken_by}

-- ---- what is legal, apart from the life
pub record IsOrderly (state : State) : Type 0 where
  pub sound : AreSound state.spec.size state.events state.tickets state.records
  pub numbered : AreNumbered state.spec.max_refs state.events state.tickets

pub orderly-from_legal : (state : State) → IsLegal state → IsOrderly state
orderly-from_legal state legal = record {
  sound = record {
    keys_rise = legal.keys_rise;
    within_size = legal.within_size;
    keys_held = recursion_from_All (λ (held : Ticket × Key). IsSome (record_at held.1 state.records)) state.tickets legal.keys_held;
    stamps_differ = legal.stamps_differ;
    stamps_past = all-map stamp_in (λ s. s ≤ state.events) state.records (recursion_from_All (λ entry. stamp_in entry ≤ state.events) state.records legal.stamps_past);
  };
  numbered = record {
    numbers_differ = legal.numbers_differ;
    numbers_past = all-map number_in (λ n. n ≤ state.events) state.tickets (recursion_from_All (λ held. number_in held ≤ state.events) state.tickets legal.numbers_past);
    slots_differ = legal.slots_differ;
    slots_below = all-map slot_in (λ slot. slot < state.spec.max_refs) state.tickets (recursion_from_All (λ held. slot_in held < state.spec.max_refs) state.tickets legal.slots_below);
  };
}

pub data-from_legal : (state : State) → IsLegal state → HoldData state.spec.columns state.records
data-from_legal state legal = all-map values_in (AreDataOf state.spec.columns) state.records (recursion_from_All (λ (entry : Key × Record). AreDataOf state.spec.columns entry.1.values) state.records legal.values)

pub legal-from_orderly : (state : State) → IsOrderly state → HoldData state.spec.columns state.records → state.events + length state.tickets ≤ state.spec.life → IsLegal state
legal-from_orderly state orderly holds life = record {
  keys_rise = orderly.sound.keys_rise;
  within_size = orderly.sound.within_size;
  keys_held = All-from_recursion (λ (held : Ticket × Key). IsSome (record_at held.1 state.records)) state.tickets orderly.sound.keys_held;
  within_life = life;
  stamps_differ = orderly.sound.stamps_differ;
  stamps_past = All-from_recursion (λ entry. stamp_in entry ≤ state.events) state.records (all-unmap stamp_in (λ s. s ≤ state.events) state.records orderly.sound.stamps_past);
  numbers_differ = orderly.numbered.numbers_differ;
  numbers_past = All-from_recursion (λ held. number_in held ≤ state.events) state.tickets (all-unmap number_in (λ n. n ≤ state.events) state.tickets orderly.numbered.numbers_past);
  slots_differ = orderly.numbered.slots_differ;
  slots_below = All-from_recursion (λ held. slot_in held < state.spec.max_refs) state.tickets (all-unmap slot_in (λ slot. slot < state.spec.max_refs) state.tickets orderly.numbered.slots_below);
  values = All-from_recursion (λ (entry : Key × Record). AreDataOf state.spec.columns entry.1.values) state.records (all-unmap values_in (AreDataOf state.spec.columns) state.records holds);
}

-- ---- steps

-- the clock leaves the tracked
pub stays-keeps : (clock : ℕ) (tickets : List (Ticket × Key)) → KeepsTracked tickets (stays clock tickets)
stays-keeps clock tickets entry tracked = ap (λ b. b || outlives clock entry.1) tracked

pub removes-keeps : (key : Key) (tickets : List (Ticket × Key)) → is_tracked key tickets ≡ false → KeepsTracked tickets (λ (entry : Key × Record). not (same_key key entry.0))
removes-keeps key tickets free entry tracked = go (same_key key entry.0) refl
  where
    go : (b : Bool) → same_key key entry.0 ≡ b → not b ≡ true
    go true same = absurd (false≢true (sym free ∙ ap (λ k. is_tracked k tickets) (same_key-exact key entry.0 same) ∙ tracked))
    go false other = refl

pub clears-keeps : (clock : ℕ) (tickets : List (Ticket × Key)) (choice : Filter) → KeepsTracked tickets (λ entry. not (is_matched clock tickets choice false entry))
clears-keeps clock tickets choice entry tracked = ap (λ b. not (cond b (false && passes clock tickets choice entry) (not false && passes clock tickets choice entry))) tracked

orderly-happens : {slot : ℕ} {event : Event} {reply : Reply} {new : State} (old : State) → IsOrderly old → Happens old slot event reply new → IsTrue (option_map_or (is_free_slot old) (slot_of reply) true) → IsOrderly new
orderly-happens old orderly happening free =
    go happening free
  where
    base : (now : ℕ) → AreSound old.spec.size old.events old.tickets (begun old now).records
    base now = sound-filter old.spec.size old.events old.tickets old.records (stays (begun old now).clock old.tickets) (stays-keeps (begun old now).clock old.tickets) orderly.sound

    numbers : AreNumbered old.spec.max_refs (old.events + 1) old.tickets
    numbers = numbered-later old.spec.max_refs old.events old.tickets orderly.numbered

    go : {slot : ℕ} {event : Event} {reply : Reply} {new : State} → Happens old slot event reply new → IsTrue (option_map_or (is_free_slot old) (slot_of reply) true) → IsOrderly new
    go (idles event reply quiet idle) free = record { sound = sound-later old.spec.size old.events old.tickets (begun old (moment_of event)).records (base (moment_of event)); numbered = numbers }
    go {slot} (tracks now key records room) free =
        let w : Record = connected (begun old now) key in
        let stored = sound-stored old.spec old.events old.tickets (begun old now).records key w records (is-stored old.spec old.tickets (begun old now).records key w records room) refl (base now) in
        record {
          sound = sound-more old.spec.size (old.events + 1) (record { number = old.events + 1; slot = slot }) key old.tickets records stored.1 stored.0;
          numbered = numbered-more old.spec.max_refs old.events slot key old.tickets free orderly.numbered;
        }
    go (counts now ticket act key found) free =
        let state : State = begun old now in
        record { sound = sound-acted old.spec.size old.events old.tickets state.records key (zero_record old.spec.columns) (record (found_or_zero state key) { values = acted (found_or_zero state key).values state.clock act }) refl (base now); numbered = numbers }
    go (releases now ticket key found) free =
        let state : State = begun old now in
        let q : Ticket × Key → Bool = λ held. not (same_ticket ticket held.0) in
        record {
          sound = sound-fewer old.spec.size (old.events + 1) old.tickets _ q (sound-refreshed old.spec.size old.events old.tickets state.records key (touched state (found_or_zero (without_ticket state ticket) key)) refl (base now));
          numbered = numbered-fewer old.spec.max_refs (old.events + 1) old.tickets q numbers;
        }
    go (writes now key pairs created records room) free =
        let w : Record = written (begun old now) key pairs in
        record { sound = (sound-stored old.spec old.events old.tickets (begun old now).records key w records (is-stored old.spec old.tickets (begun old now).records key w records room) refl (base now)).0; numbered = numbers }
    go (removes now key untracked) free =
        let q : Key × Record → Bool = λ entry. not (same_key key entry.0) in
        record { sound = sound-later old.spec.size old.events old.tickets (filter q (begun old now).records) (sound-filter old.spec.size old.events old.tickets (begun old now).records q (removes-keeps key old.tickets untracked) (base now)); numbered = numbers }
    go (clears now choice) free =
        let state : State = begun old now in
        let q : Key × Record → Bool = λ entry. not (is_matched state.clock old.tickets choice false entry) in
        record { sound = sound-later old.spec.size old.events old.tickets (filter q state.records) (sound-filter old.spec.size old.events old.tickets state.records q (clears-keeps state.clock old.tickets choice) (base now)); numbered = numbers }

pub step_orderly : (old : State) (event : Event) (reply : Reply) (new : State) → IsOrderly old → Step old event reply new → IsOrderly new
step_orderly old event reply new orderly step = orderly-happens old orderly (happened old event reply new step) step.free

-- a new ticket has the number of its event
abbrev NumberIs : ℕ → Reply → Type 0
NumberIs n (Tracked ticket row) = ticket.number ≡ n
NumberIs n _ = Unit {0}

quiet-number : (n : ℕ) (reply : Reply) → IsQuiet reply → NumberIs n reply
quiet-number n (Tracked ticket row) quiet = absurd quiet
quiet-number n _ quiet = tt

step_number : (old : State) (event : Event) (reply : Reply) (new : State) → Step old event reply new → NumberIs (old.events + 1) reply
step_number old event reply new step = given (happened old event reply new step)
  where
    given : {slot : ℕ} {event : Event} {reply : Reply} {new : State} → Happens old slot event reply new → NumberIs (old.events + 1) reply
    given (idles event reply quiet idle) = quiet-number (old.events + 1) reply quiet
    given (tracks now key records room) = refl
    given (counts now ticket act key out) = tt
    given (releases now ticket key out) = tt
    given (writes now key pairs created records room) = tt
    given (removes now key free) = tt
    given (clears now choice) = tt

pub step_ticket_number : (old : State) (event : Event) (ticket : Ticket) (row : Row) (new : State) → Step old event (Tracked ticket row) new → ticket.number ≡ old.events + 1
step_ticket_number old event ticket row new step = step_number old event (Tracked ticket row) new step

-- a ticket that a step gives is out after it, for the key of the row
pub step_gives_ticket : (old : State) (event : Event) (ticket : Ticket) (row : Row) (new : State) → IsOrderly old → Step old event (Tracked ticket row) new → key_of ticket new.tickets ≡ Some row.key
step_gives_ticket old event ticket row new orderly step =
    subst (λ ts. key_of ticket ts ≡ Some row.key) (sym (step_tickets old event (Tracked ticket row) new step)) (last old.tickets orderly.numbered.numbers_past)
  where
    number : ticket.number ≡ old.events + 1
    number = step_ticket_number old event ticket row new step

    own : (a : ℕ) → nat_eq a a ≡ true
    own a = grind (arith, nat_tests)

    last : (tickets : List (Ticket × Key)) → AllByRecursion (λ n. n ≤ old.events) (map number_in tickets) → key_of ticket (tickets ++ (ticket, row.key) ∷ []) ≡ Some row.key
    last [] past = ap (λ b. cond (b && nat_eq ticket.slot ticket.slot) (Some row.key) None) (own ticket.number) ∙ ap (λ b. cond b (Some row.key) None) (own ticket.slot)
    last (held ∷ tickets) past =
        let apart : nat_eq ticket.number held.0.number ≡ false = differ-below ticket.number held.0.number (omega (arith, number, past.0)) in
        ap (λ b. cond (b && nat_eq ticket.slot held.0.slot) (Some held.1) (key_of ticket (tickets ++ (ticket, row.key) ∷ []))) apart ∙ last tickets past.1

-- ---- the life

-- a ticket's number is in one place at most
one-without : (ticket : Ticket) (tickets : List (Ticket × Key)) → IsDistinct nat_eq (map number_in tickets) → length tickets ≤ length (filter (λ (held : Ticket × Key). not (same_ticket ticket held.0)) tickets) + 1
unfolding IsDistinct
one-without ticket [] differ = omega arith
one-without ticket (held ∷ tickets) differ =
    elim (same_ticket ticket held.0) as (λ b. same_ticket ticket held.0 ≡ b → length (held ∷ tickets) ≤ length (cond (not b) (held ∷ filter (λ (held : Ticket × Key). not (same_ticket ticket held.0)) tickets) (filter (λ (held : Ticket × Key). not (same_ticket ticket held.0)) tickets)) + 1) [
      | true ↦ λ is. omega (arith, all tickets (eq-from ticket.number held.0.number (and-left (nat_eq ticket.number held.0.number) (nat_eq ticket.slot held.0.slot) is)) differ.0)
      | false ↦ λ _. omega (arith, one-without ticket tickets differ.1)
    ] refl
  where
    all : (some : List (Ticket × Key)) → ticket.number ≡ held.0.number → AllByRecursion (λ n. nat_eq held.0.number n ≡ false) (map number_in some) → length some ≤ length (filter (λ (held : Ticket × Key). not (same_ticket ticket held.0)) some)
    all [] same differ = omega arith
    all (other ∷ some) same differ =
        let apart : same_ticket ticket other.0 ≡ false = ap (λ n. nat_eq n other.0.number && nat_eq ticket.slot other.0.slot) same ∙ ap (λ b. b && nat_eq ticket.slot other.0.slot) differ.0 in
        subst (λ b. length (other ∷ some) ≤ length (cond (not b) (other ∷ filter (λ (held : Ticket × Key). not (same_ticket ticket held.0)) some) (filter (λ (held : Ticket × Key). not (same_ticket ticket held.0)) some))) (sym apart) (omega (arith, all some same differ.1))

-- as many tickets are out as the reply tells
pub step_tickets-length : (old : State) (event : Event) (reply : Reply) (new : State) → IsOrderly old → Step old event reply new → length new.tickets + taken_by reply ≡ length old.tickets + given_by reply
step_tickets-length old event reply new orderly step = counted (happened old event reply new step) (step_tickets-le old event reply new step)
  where
    counted : {slot : ℕ} {event : Event} {reply : Reply} {new : State} → Happens old slot event reply new → length new.tickets + taken_by reply ≤ length old.tickets + given_by reply → length new.tickets + taken_by reply ≡ length old.tickets + given_by reply
    counted (idles event reply quiet idle) le = let counts = quiet-counts reply quiet in omega (arith, counts.0, counts.1)
    counted {slot} (tracks now key records room) le = let more : List (Ticket × Key) = (record { number = old.events + 1; slot = slot }, key) ∷ [] in omega (arith, length-append old.tickets more)
    counted (counts now ticket act key found) le = omega arith
    counted (releases now ticket key found) le = omega (arith, one-without ticket old.tickets orderly.numbered.numbers_differ)
    counted (writes now key pairs created records room) le = omega arith
    counted (removes now key free) le = omega arith
    counted (clears now choice) le = omega arith

at_most_one : (reply : Reply) → taken_by reply ≤ 1
at_most_one Released = omega arith
at_most_one _ = omega arith

-- the events and the tickets together never become fewer
pub step_grows : (old : State) (event : Event) (reply : Reply) (new : State) → IsOrderly old → Step old event reply new → old.events + length old.tickets ≤ new.events + length new.tickets
step_grows old event reply new orderly step = omega (arith, step_events old event reply new step, step_tickets-length old event reply new orderly step, at_most_one reply)

-- an event that has life ends within it
pub step_within_life : (old : State) (event : Event) (reply : Reply) (new : State) → old.events + length old.tickets ≤ old.spec.life → IsTrue (has_life old event) → Step old event reply new → new.events + length new.tickets ≤ new.spec.life
step_within_life old event reply new within has step =
    let life : new.spec.life ≡ old.spec.life = ap (λ (spec : Spec). spec.life) (step_spec old event reply new step) in
    let enough : (life_taken event ≡ 0) ⊎ (old.events + length old.tickets + life_taken event ≤ old.spec.life) = either (life_taken event) (old.events + length old.tickets) old.spec.life has in
    let places = step_places old event reply new step in
    let tickets = step_tickets-le old event reply new step in
    let one = step_events old event reply new step in
    elim enough [ inl none ↦ omega (arith, none, life, places, tickets, one, within) | inr left ↦ omega (arith, left, life, places, tickets, one) ]
  where
    either : (a b c : ℕ) → nat_eq a 0 || nat_le (b + a) c ≡ true → (a ≡ 0) ⊎ (b + a ≤ c)
    either a b c h = elim (nat_eq a 0) as (λ t. nat_eq a 0 ≡ t → t || nat_le (b + a) c ≡ true → (a ≡ 0) ⊎ (b + a ≤ c)) [ true ↦ λ is _. inl (eq-from a 0 is) | false ↦ λ _ le. inr (le-from (b + a) c le) ] refl h

-- ---- the laws

pub step_legal : StepLegalLaw
step_legal old event reply new legal taken has step =
    legal-from_orderly new (step_orderly old event reply new (orderly-from_legal old legal) step) (step_data old event reply new taken (data-from_legal old legal) step)
    (step_within_life old event reply new legal.within_life has step)

pub empty_legal : EmptyLegalLaw
unfolding IsDistinct IsStrictlySortedBy
empty_legal spec = legal-from_orderly (empty_table spec) (record {
  sound = record { keys_rise = tt; within_size = omega arith; keys_held = tt; stamps_differ = tt; stamps_past = tt };
  numbered = record { numbers_differ = tt; numbers_past = tt; slots_differ = tt; slots_below = tt };
}) tt (omega arith)

pub run_orderly : (old : State) (events : List Event) (replies : List Reply) (new : State) → IsOrderly old → Run old events replies new → IsOrderly new
run_orderly old [] [] new orderly run = subst IsOrderly (sym run) orderly
run_orderly old [] (r ∷ rs) new orderly run = absurd run
run_orderly old (e ∷ es) [] new orderly run = absurd run
run_orderly old (e ∷ es) (r ∷ rs) new orderly run = run_orderly run.0 es rs new (step_orderly old e r run.0 orderly run.1) run.2

pub run_grows : (old : State) (events : List Event) (replies : List Reply) (new : State) → IsOrderly old → Run old events replies new → old.events + length old.tickets ≤ new.events + length new.tickets
run_grows old [] [] new orderly run = subst (λ (s : State). old.events + length old.tickets ≤ s.events + length s.tickets) (sym run) (omega arith)
run_grows old [] (r ∷ rs) new orderly run = absurd run
run_grows old (e ∷ es) [] new orderly run = absurd run
run_grows old (e ∷ es) (r ∷ rs) new orderly run = omega (arith, step_grows old e r run.0 orderly run.1, run_grows run.0 es rs new (step_orderly old e r run.0 orderly run.1) run.2)

pub places_legal : RunLegalLaw
places_legal old events later replies new legal taken on within =
    let start : IsOrderly on.middle = run_orderly old events on.first on.middle (orderly-from_legal old legal) on.before in
    let holds : HoldData on.middle.spec.columns on.middle.records = run_data old events on.first on.middle (recursion_from_All IsTableEvent events taken) (data-from_legal old legal) on.before in
    let grows = run_grows on.middle later on.rest new start on.after in
    let life : new.spec.life ≡ on.middle.spec.life = ap (λ (spec : Spec). spec.life) (run_spec on.middle later on.rest new on.after) in
    legal-from_orderly on.middle start holds (omega arith)

-- a run from a legal state that ends within the life ends legal
pub run_legal : (old : State) (events : List Event) (replies : List Reply) (new : State) → IsLegal old → AllByRecursion IsTableEvent events → Run old events replies new → new.events + length new.tickets ≤ new.spec.life → IsLegal new
run_legal old events replies new legal taken run within = legal-from_orderly new (run_orderly old events replies new (orderly-from_legal old legal) run) (run_data old events replies new taken (data-from_legal old legal) run) within

pub stored_run_legal : (old : State) (calls : List Stored) (replies : List Reply) (new : State) → IsLegal old → AllByRecursion IsTableEvent (events_of calls) → StoredRun old calls replies new → new.events + length new.tickets ≤ new.spec.life → IsLegal new
stored_run_legal old calls replies new legal taken run within = run_legal old (events_of calls) replies new legal taken (run_from_stored old calls replies new run) within

-- a run whose events had life left ends legal
pub lasting_run_legal : (old : State) (calls : List Stored) (replies : List Reply) (new : State) → IsLegal old → AllByRecursion IsTableEvent (events_of calls) → LastingRun old calls replies new → IsLegal new
lasting_run_legal old [] [] new legal taken run = subst IsLegal (sym run) legal
lasting_run_legal old [] (r ∷ rs) new legal taken run = absurd run
lasting_run_legal old (c ∷ cs) [] new legal taken run = absurd run
lasting_run_legal old (c ∷ cs) (r ∷ rs) new legal taken run = lasting_run_legal run.0 cs rs new (step_legal old c.event r run.0 legal taken.0 run.2 run.3) taken.1 run.4
