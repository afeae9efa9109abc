-- A shard whose references have no slots: each event is answered as before, but for the slots.
use Rattle.std.proofs.Common.{◌≡◌, ℕ, refl, sym, ap, subst, ◌∙◌, arith, Bool, true, false, cond, not, nat_eq, nat_le, nat_lt, ◌&&◌, ◌||◌, List, [], ◌∷◌, ◌++◌, length, map, filter, count_by, Option, Some, None, is_some, unwrap_or}
use Rattle.std.specs.Prelude.{option_map, max, if◌then◌else◌}
use Rattle.std.specs.BTreeMap.{insert_entry}
use Rattle.std.specs.List.{AllByRecursion, IsDistinct, list_all}
use Rattle.std.specs.Option.{option_map_or}
use Rattle.std.proofs.lemmas.Bool.{false≢true}
use Rattle.std.proofs.lemmas.Bool.Decides.{nat_tests}
use Rattle.std.proofs.lemmas.List.Sums.{sum_by-cons}
use Rattle.std.proofs.lemmas.Map.Keys.{IsDistinct-head, IsDistinct-tail}
use Rattle.stored_data.specs.declared.act.Act.{Act}
use Rattle.stick_model.specs.Key.{Key, key_cmp, same_key}
use Rattle.stick_model.specs.Legal.{IsLegal, number_in}
use Rattle.stick_model.specs.Room.{stored_in}
use Rattle.stick_model.specs.State.{State, key_of, outlives, record_at, refs, row, row_of, same_ticket}
use Rattle.stick_model.specs.Step.{Outcome, Step, after, begun, connected, count, counted_at, get, is_out, look, release, released_at, slot_of, track, tracked}
use Rattle.stick_model.specs.declared.events.Event.{Event}
use Rattle.stick_model.specs.declared.events.Event.TheVariants as events
use Rattle.stick_model.specs.declared.replies.Reply.{Reply}
use Rattle.stick_model.specs.declared.replies.Reply.TheVariants as replies
use Rattle.stick_model.specs.declared.rows.Record.{Record}
use Rattle.stick_model.specs.declared.rows.Ticket.{Ticket}
use Rattle.stick_model.specs.declared.specification.Spec.{Spec}
use Rattle.stick_model.proofs.TestLemmas.{and-left, eq-from}

-- ---- without slots

abbrev pub plain_ticket : Ticket → Ticket
plain_ticket ticket = record { number = ticket.number; slot = 0 }

abbrev pub plain_tickets : List (Ticket × Key) → List (Ticket × Key)
plain_tickets tickets = map (λ (held : Ticket × Key). (plain_ticket held.0, held.1)) tickets

abbrev pub plain : State → State
plain state = record state { tickets = plain_tickets state.tickets }

abbrev pub plain_event : Event → Event
plain_event (events.Look now ticket) = events.Look now (plain_ticket ticket)
plain_event (events.Count now ticket act) = events.Count now (plain_ticket ticket) act
plain_event (events.Release now ticket) = events.Release now (plain_ticket ticket)
plain_event event = event

abbrev pub plain_reply : Reply → Reply
plain_reply (replies.Tracked ticket row) = replies.Tracked (plain_ticket ticket) row
plain_reply reply = reply

abbrev pub plain_outcome : Outcome → Outcome
plain_outcome o = (plain_reply o.0, plain o.1)

-- ---- what of the tickets a state is asked for

pub refs_plain : (key : Key) (tickets : List (Ticket × Key)) → refs key (plain_tickets tickets) ≡ refs key tickets
refs_plain key [] = refl
refs_plain key (h ∷ tickets) =
    omega (
      arith,
      refs_plain key tickets,
      sum_by-cons (λ (x : Ticket × Key). cond (same_key key x.1) 1 0) h tickets,
      sum_by-cons (λ (x : Ticket × Key). cond (same_key key x.1) 1 0) (plain_ticket h.0, h.1) (plain_tickets tickets),
    )

length_plain : (tickets : List (Ticket × Key)) → length (plain_tickets tickets) ≡ length tickets
length_plain [] = refl
length_plain (h ∷ tickets) = let rest : length (plain_tickets tickets) ≡ length tickets = length_plain tickets in omega arith

push_plain : (tickets : List (Ticket × Key)) (ticket : Ticket) (key : Key) → plain_tickets (tickets ++ (ticket, key) ∷ []) ≡ plain_tickets tickets ++ (plain_ticket ticket, key) ∷ []
push_plain [] ticket key = refl
push_plain (h ∷ tickets) ticket key = ap (λ rest. (plain_ticket h.0, h.1) ∷ rest) (push_plain tickets ticket key)

pub begun_plain : (state : State) (now : ℕ) → begun (plain state) now ≡ plain (begun state now)
begun_plain state now =
    (λ i. record (plain (begun state now)) { records = filter (λ (entry : Key × Record). nat_lt 0 (refs_plain entry.0 state.tickets i) || outlives (begun state now).clock entry.1) state.records })

-- ---- a ticket that is out is told by its number

-- the tests of a ticket's number, and of number and slot, agree
abbrev Agrees : Ticket → List (Ticket × Key) → Type 0
Agrees ticket tickets = AllByRecursion (λ (h : Ticket × Key). same_ticket (plain_ticket ticket) (plain_ticket h.0) ≡ same_ticket ticket h.0) tickets

other_number : (n : ℕ) (ticket : Ticket) (tickets : List (Ticket × Key)) → is_some (key_of ticket tickets) ≡ true → AllByRecursion (λ m. nat_eq n m ≡ false) (map number_in tickets) → nat_eq n ticket.number ≡ false
other_number n ticket [] out differ = absurd (false≢true out)
other_number n ticket (h ∷ tickets) out differ =
    elim (same_ticket ticket h.0) as (λ b. same_ticket ticket h.0 ≡ b → is_some (cond b (Some h.1) (key_of ticket tickets)) ≡ true → nat_eq n ticket.number ≡ false) [
      | true ↦ λ is out. ap (nat_eq n) (eq-from ticket.number h.0.number (and-left (nat_eq ticket.number h.0.number) (nat_eq ticket.slot h.0.slot) is)) ∙ differ.0
      | false ↦ λ is out. other_number n ticket tickets out differ.1
    ] refl out

swapped : (a b : ℕ) → nat_eq a b ≡ nat_eq b a
swapped a b = grind (arith, nat_tests)

test_true : (a b : ℕ) → nat_eq a b ≡ true → (nat_eq a b && nat_eq 0 0) ≡ true
test_true a b is = grind (arith, nat_tests)

test_false : (a b c d : ℕ) → nat_eq a b ≡ false → (nat_eq a b && nat_eq 0 0) ≡ (nat_eq a b && nat_eq c d)
test_false a b c d is = (λ i. is i && nat_eq 0 0) ∙ sym (λ i. is i && nat_eq c d)

-- none of those behind has its number
agrees_past : (ticket : Ticket) (tickets : List (Ticket × Key)) → AllByRecursion (λ m. nat_eq ticket.number m ≡ false) (map number_in tickets) → Agrees ticket tickets
agrees_past ticket [] differ = tt
agrees_past ticket (h ∷ tickets) differ = (test_false ticket.number h.0.number ticket.slot h.0.slot differ.0, agrees_past ticket tickets differ.1)

agrees : (ticket : Ticket) (tickets : List (Ticket × Key)) → is_some (key_of ticket tickets) ≡ true → IsDistinct nat_eq (map number_in tickets) → Agrees ticket tickets
agrees ticket [] out distinct = tt
agrees ticket (h ∷ tickets) out distinct =
    elim (same_ticket ticket h.0) as (λ b. same_ticket ticket h.0 ≡ b → is_some (cond b (Some h.1) (key_of ticket tickets)) ≡ true → Agrees ticket (h ∷ tickets)) [
      | true ↦ λ is out.
          let number : nat_eq ticket.number h.0.number ≡ true = and-left (nat_eq ticket.number h.0.number) (nat_eq ticket.slot h.0.slot) is in
          let same : ticket.number ≡ h.0.number = eq-from ticket.number h.0.number number in (
            test_true ticket.number h.0.number number ∙ sym is,
            agrees_past ticket tickets (subst (λ n. AllByRecursion (λ m. nat_eq n m ≡ false) (map number_in tickets)) (sym same) (IsDistinct-head nat_eq h.0.number (map number_in tickets) distinct)),
          )
      | false ↦ λ is out.
          let differ : nat_eq ticket.number h.0.number ≡ false = swapped ticket.number h.0.number ∙ other_number h.0.number ticket tickets out (IsDistinct-head nat_eq h.0.number (map number_in tickets) distinct) in
          (test_false ticket.number h.0.number ticket.slot h.0.slot differ, agrees ticket tickets out (IsDistinct-tail nat_eq h.0.number (map number_in tickets) distinct))
    ] refl out

key_plain : (ticket : Ticket) (tickets : List (Ticket × Key)) → Agrees ticket tickets → key_of (plain_ticket ticket) (plain_tickets tickets) ≡ key_of ticket tickets
key_plain ticket [] agree = refl
key_plain ticket (h ∷ tickets) agree = (λ i. cond (agree.0 i) (Some h.1) (key_plain ticket tickets agree.1 i))

without_plain : (ticket : Ticket) (tickets : List (Ticket × Key)) → Agrees ticket tickets
    → filter (λ (h : Ticket × Key). not (same_ticket (plain_ticket ticket) h.0)) (plain_tickets tickets) ≡ plain_tickets (filter (λ (h : Ticket × Key). not (same_ticket ticket h.0)) tickets)
without_plain ticket [] agree = refl
without_plain ticket (h ∷ tickets) agree =
    (λ i. cond (not (agree.0 i)) ((plain_ticket h.0, h.1) ∷ without_plain ticket tickets agree.1 i) (without_plain ticket tickets agree.1 i))
    ∙ by (same_ticket ticket h.0)
  where
    kept : List (Ticket × Key)
    kept = filter (λ (x : Ticket × Key). not (same_ticket ticket x.0)) tickets

    by : (b : Bool) → cond (not b) ((plain_ticket h.0, h.1) ∷ plain_tickets kept) (plain_tickets kept) ≡ plain_tickets (cond (not b) (h ∷ kept) kept)
    by true = refl
    by false = refl

-- ---- a begun event

get_plain : (state : State) (key : Key) → get (plain state) key ≡ plain_outcome (get state key)
get_plain state key = (λ i. (by (record_at key state.records) i, plain state))
  where
    by : (o : Option Record) → option_map_or (λ (found : Record). replies.Row (row (plain state) key found)) o replies.Absent ≡ plain_reply (option_map_or (λ (found : Record). replies.Row (row state key found)) o replies.Absent)
    by None = refl
    by (Some found) = ap (λ n. replies.Row (row_of state.spec.columns state.clock n key found)) (refs_plain key state.tickets)

-- a record stored, by what is tracked
abbrev stored_by : (Key → Bool) → Spec → List (Key × Record) → Key → Record → Option (List (Key × Record))
stored_by is_kept spec records key found =
    option_map (λ roomy. insert_entry key_cmp roomy key found) (if is_some (record_at key records) then Some records
    else (if nat_lt (length records) spec.size then Some records
    else (if spec.nopurge || list_all (λ (entry : Key × Record). is_kept entry.0) records then None
    else Some (filter (λ (entry : Key × Record). not (not (is_kept entry.0) && nat_lt (count_by (λ (other : Key × Record). not (is_kept other.0) && nat_lt other.1.stamp entry.1.stamp) records) (max 1 spec.purge))) records))))

pub stored_plain : (spec : Spec) (tickets : List (Ticket × Key)) (records : List (Key × Record)) (key : Key) (found : Record) → stored_in spec (plain_tickets tickets) records key found ≡ stored_in spec tickets records key found
stored_plain spec tickets records key found = (λ i. stored_by (λ k. nat_lt 0 (refs_plain k tickets i)) spec records key found)

tracked_plain : (state : State) (key : Key) (kept : Record) (ticket : Ticket) (records : List (Key × Record))
    → tracked (plain state) key kept (plain_ticket ticket) (record (plain state) { records = records }) ≡ plain_outcome (tracked state key kept ticket (record state { records = records }))
tracked_plain state key kept ticket records =
    let all : List (Ticket × Key) = state.tickets ++ (ticket, key) ∷ [] in
    (λ i. (replies.Tracked (plain_ticket ticket) (row_of state.spec.columns state.clock (refs key (sym (push_plain state.tickets ticket key) i)) key kept), record state { records = records; tickets = sym (push_plain state.tickets ticket key) i }))
    ∙ (λ i. (replies.Tracked (plain_ticket ticket) (row_of state.spec.columns state.clock (refs_plain key all i) key kept), record state { records = records; tickets = plain_tickets all }))

track_plain : (state : State) (key : Key) (slot : ℕ) → track (plain state) key 0 ≡ plain_outcome (track state key slot)
track_plain state key slot =
    (λ i. if nat_le state.spec.max_refs (length_plain state.tickets i) then (replies.NoRefs, plain state)
    else option_map_or (tracked (plain state) key (connected state key) (record { number = state.events; slot = 0 })) (option_map (λ records. record (plain state) { records = records }) (stored_plain state.spec state.tickets state.records key (connected state key) i)) (replies.Full, plain state))
    ∙ by (nat_le state.spec.max_refs (length state.tickets)) (stored_in state.spec state.tickets state.records key (connected state key))
  where
    ticket : Ticket
    ticket = record { number = state.events; slot = slot }

    by : (full : Bool) (o : Option (List (Key × Record)))
        → cond full (replies.NoRefs, plain state) (option_map_or (tracked (plain state) key (connected state key) (record { number = state.events; slot = 0 })) (option_map (λ records. record (plain state) { records = records }) o) (replies.Full, plain state))
        ≡ plain_outcome (cond full (replies.NoRefs, state) (option_map_or (tracked state key (connected state key) (record { number = state.events; slot = slot })) (option_map (λ records. record state { records = records }) o) (replies.Full, state)))
    by true o = refl
    by false None = refl
    by false (Some records) = tracked_plain state key (connected state key) (record { number = state.events; slot = slot }) records

look_plain : (state : State) (ticket : Ticket) → Agrees ticket state.tickets → look (plain state) (plain_ticket ticket) ≡ plain_outcome (look state ticket)
look_plain state ticket agree = (λ i. option_map_or (get (plain state)) (key_plain ticket state.tickets agree i) (replies.Absent, plain state)) ∙ by (key_of ticket state.tickets)
  where
    by : (o : Option Key) → option_map_or (get (plain state)) o (replies.Absent, plain state) ≡ plain_outcome (option_map_or (get state) o (replies.Absent, state))
    by None = refl
    by (Some key) = get_plain state key

count_plain : (state : State) (ticket : Ticket) (act : Act) → Agrees ticket state.tickets → count (plain state) (plain_ticket ticket) act ≡ plain_outcome (count state ticket act)
count_plain state ticket act agree = (λ i. option_map_or (λ key. counted_at (plain state) key act) (key_plain ticket state.tickets agree i) (replies.Absent, plain state)) ∙ by (key_of ticket state.tickets)
  where
    by : (o : Option Key) → option_map_or (λ key. counted_at (plain state) key act) o (replies.Absent, plain state) ≡ plain_outcome (option_map_or (λ key. counted_at state key act) o (replies.Absent, state))
    by None = refl
    by (Some key) = refl

release_plain : (state : State) (ticket : Ticket) → Agrees ticket state.tickets → release (plain state) (plain_ticket ticket) ≡ plain_outcome (release state ticket)
release_plain state ticket agree =
    (λ i. option_map_or {U = Outcome} (λ key. (replies.Released, record (released_at state ticket key) { tickets = without_plain ticket state.tickets agree i })) (key_plain ticket state.tickets agree i) (replies.Absent, plain state))
    ∙ by (key_of ticket state.tickets)
  where
    gone : Key → State
    gone key = record (released_at state ticket key) { tickets = plain_tickets (filter (λ (h : Ticket × Key). not (same_ticket ticket h.0)) state.tickets) }

    by : (o : Option Key) → option_map_or {U = Outcome} (λ key. (replies.Released, gone key)) o (replies.Absent, plain state) ≡ plain_outcome (option_map_or {U = Outcome} (λ key. (replies.Released, released_at state ticket key)) o (replies.Absent, state))
    by None = refl
    by (Some key) = refl

-- ---- a step

-- an event that a connection makes
abbrev pub is_asked : Event → Bool
is_asked (events.Get now key) = true
is_asked (events.Track now key) = true
is_asked (events.Look now ticket) = true
is_asked (events.Count now ticket act) = true
is_asked (events.Release now ticket) = true
is_asked event = false

after_plain : (old : State) (event : Event) (slot : ℕ) → is_asked event ≡ true → is_out old event ≡ true → IsDistinct nat_eq (map number_in old.tickets) → after (plain old) (plain_event event) 0 ≡ plain_outcome (after old event slot)
after_plain old (events.Get now key) slot asked out distinct = ap (λ s. get s key) (begun_plain old now) ∙ get_plain (begun old now) key
after_plain old (events.Track now key) slot asked out distinct = ap (λ s. track s key 0) (begun_plain old now) ∙ track_plain (begun old now) key slot
after_plain old (events.Look now ticket) slot asked out distinct = ap (λ s. look s (plain_ticket ticket)) (begun_plain old now) ∙ look_plain (begun old now) ticket (agrees ticket old.tickets out distinct)
after_plain old (events.Count now ticket act) slot asked out distinct = ap (λ s. count s (plain_ticket ticket) act) (begun_plain old now) ∙ count_plain (begun old now) ticket act (agrees ticket old.tickets out distinct)
after_plain old (events.Release now ticket) slot asked out distinct = ap (λ s. release s (plain_ticket ticket)) (begun_plain old now) ∙ release_plain (begun old now) ticket (agrees ticket old.tickets out distinct)
after_plain old (events.Put now key cells) slot asked out distinct = absurd (false≢true asked)
after_plain old (events.Clear now key) slot asked out distinct = absurd (false≢true asked)
after_plain old (events.ClearWhere now choice) slot asked out distinct = absurd (false≢true asked)
after_plain old (events.List now choice) slot asked out distinct = absurd (false≢true asked)
after_plain old (events.Expire now) slot asked out distinct = absurd (false≢true asked)

-- a step of such an event is one alone, but for the slots
pub step_plain : (old : State) (event : Event) (reply : Reply) (new : State) → is_asked event ≡ true → IsLegal old → Step old event reply new → after (plain old) (plain_event event) 0 ≡ (plain_reply reply, plain new)
step_plain old event reply new asked legal step = after_plain old event (unwrap_or (slot_of reply) 0) asked step.out legal.numbers_differ ∙ ap plain_outcome step.gives
