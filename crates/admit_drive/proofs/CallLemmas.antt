-- What a connection asks is there: its shard, and the ticket that it names.
use Rattle.std.proofs.Common.{◌≡◌, ℕ, ◌≤◌, ◌<◌, refl, ap, subst, ◌∙◌, arith, Bool, true, false, cond, ◌&&◌, nat_eq, nat_lt, List, [], ◌∷◌, length, slice_get, Option, Some, None, is_some}
use Rattle.std.specs.Option.{option_and_then, option_map, option_map_or}
use Rattle.std.proofs.lemmas.Bool.Decides.{nat_tests}
use Rattle.std.proofs.lemmas.List.Sums.{sum_by-cons}
use Rattle.std.proofs.lemmas.Option.{slice_get_within}
use Rattle.std.proofs.Math.Nat.{mod-lt}
use Rattle.stick_key.specs.Shard.{shard}
use Rattle.rule_model.specs.declared.actions.Slot.{Slot}
use Rattle.rule_model.specs.declared.sections.Setup.{Setup}
use Rattle.stick_model.specs.Key.{Key}
use Rattle.stick_model.specs.Legal.{IsLegal}
use Rattle.stick_model.specs.State.{State, key_of, same_ticket}
use Rattle.stick_model.specs.Step.{is_out}
use Rattle.stick_model.specs.declared.events.Event.{Event}
use Rattle.stick_model.specs.declared.events.Event.TheVariants as events
use Rattle.stick_model.specs.declared.rows.Ticket.{Ticket}
use Rattle.stick_model.proofs.TestLemmas.{lt-from}
use Rattle.shard_book.specs.BookState.{BookState}
use Rattle.admit_core.specs.Held.{held_at}
use Rattle.admit_core.specs.Naming.{names_table_of}
use Rattle.admit_core.specs.declared.held.Held.{Held}
use Rattle.admit_core.specs.declared.need.Need.{Need}
use Rattle.admit_core.specs.declared.need.Need.TheVariants as needs
use Rattle.admit_drive.specs.Balance.{IsCovered, same_reference, times_in, times_of, times_out}
use Rattle.admit_drive.specs.Calls.{IsOutNow, call_by, call_of}
use Rattle.admit_drive.specs.Tables.{AreTablesOf, HasShard, TableState, shard_at, shard_of}
use Rattle.admit_port.specs.Calls.{Call}
use Rattle.shard_port.specs.declared.reference.Reference.{Reference}
use Rattle.admit_drive.proofs.SumLemmas.{get_within}
use Rattle.admit_drive.proofs.HeldLemmas.{times_at}
use Rattle.admit_drive.proofs.TicketLemmas.{same_self, times}

-- ---- a reference that is out

out_once : (ticket : Ticket) (tickets : List (Ticket × Key)) → 1 ≤ times ticket tickets → is_some (key_of ticket tickets) ≡ true
out_once ticket [] some = absurd (omega (arith, some))
out_once ticket (held ∷ tickets) some =
    elim (same_ticket ticket held.0) as (λ b. same_ticket ticket held.0 ≡ b → is_some (cond b (Some held.1) (key_of ticket tickets)) ≡ true) [
      | true ↦ λ is. refl
      | false ↦ λ differ.
          let none : ◌≡◌ {A = ℕ} (cond (same_ticket ticket held.0) 1 0) 0 = ap (λ b. cond b 1 0) differ in
          out_once ticket tickets (omega (arith, some, none, sum_by-cons (λ (h : Ticket × Key). cond (same_ticket ticket h.0) 1 0) held tickets))
    ] refl

pub out_here : (tables : List TableState) (entry : ℕ × Reference) → 1 ≤ times_out entry tables → (live : State) × (shard_at tables entry.0 entry.1.shard ≡ Some live) × (is_some (key_of entry.1.ticket live.tickets) ≡ true)
out_here tables entry some = found (shard_at tables entry.0 entry.1.shard) refl some
  where
    found : (o : Option State) → shard_at tables entry.0 entry.1.shard ≡ o → 1 ≤ option_map_or (times_of entry.1.ticket) o 0 → (live : State) × (shard_at tables entry.0 entry.1.shard ≡ Some live) × (is_some (key_of entry.1.ticket live.tickets) ≡ true)
    found None is some = absurd (omega (arith, some))
    found (Some live) is some = (live, is, out_once entry.1.ticket live.tickets some)

pub eq_self : (a : ℕ) → nat_eq a a ≡ true
eq_self a = grind (arith, nat_tests)

all_three : (x y z : Bool) → x ≡ true → y ≡ true → z ≡ true → (x && (y && z)) ≡ true
all_three true true true p q r = refl
all_three false y z p q r = p
all_three true false z p q r = q
all_three true true false p q r = r

pub self_reference : (entry : ℕ × Reference) → same_reference entry entry ≡ true
self_reference entry = all_three (nat_eq entry.0 entry.0) (nat_eq entry.1.shard entry.1.shard) (same_ticket entry.1.ticket entry.1.ticket) (eq_self entry.0) (eq_self entry.1.shard) (same_self entry.1.ticket)

pub held_out : (tables : List TableState) (held : Held Reference) (slot : Slot) (entry : ℕ × Reference) → IsCovered tables held → held_at held slot ≡ Some entry → 1 ≤ times_out entry tables
held_out tables held slot entry covered at =
    let one : ◌≡◌ {A = ℕ} (times_in entry (held_at held slot)) 1 = ap (times_in entry) at ∙ ap (λ b. cond b 1 0) (self_reference entry) in
    omega (arith, one, times_at entry held slot, covered entry)

-- ---- shards

-- a shard that is in a state is there
pub found_at : (tables : List TableState) (table shard : ℕ) (live : State) → shard_at tables table shard ≡ Some live → HasShard tables table shard
found_at tables table shard live at = in_table (slice_get tables table) refl at
  where
    in_shard : (found : TableState) (o : Option BookState) → slice_get found.state.books shard ≡ o → option_map (λ (b : BookState). b.live) o ≡ Some live → shard < length found.state.books
    in_shard found None is some = cc
    in_shard found (Some book) is some = slice_get_within found.state.books shard book is

    in_table : (o : Option TableState) → slice_get tables table ≡ o → option_and_then (λ (found : TableState). shard_of found.state.books shard) o ≡ Some live → HasShard tables table shard
    in_table None is some = cc
    in_table (Some found) is some = record { found = found; at = is; within = in_shard found (slice_get found.state.books shard) refl some }

-- a shard that is there is in a legal state
pub legal_at : (setup : Setup) (tables : List TableState) (table shard : ℕ) (live : State) → AreTablesOf setup tables → shard_at tables table shard ≡ Some live → IsLegal live
legal_at setup tables table shard live are at = in_table (slice_get tables table) refl at
  where
    in_shard : (found : TableState) (o : Option BookState) → slice_get tables table ≡ Some found → slice_get found.state.books shard ≡ o → option_map (λ (b : BookState). b.live) o ≡ Some live → IsLegal live
    in_shard found None there is some = cc
    in_shard found (Some book) there is some =
        let same : book.live ≡ live = cc in
        subst IsLegal same ((are.each table found there).2.books.each shard book is).0.live_legal

    in_table : (o : Option TableState) → slice_get tables table ≡ o → option_and_then (λ (found : TableState). shard_of found.state.books shard) o ≡ Some live → IsLegal live
    in_table None is some = cc
    in_table (Some found) is some = in_shard found (slice_get found.state.books shard) is refl some

-- the shard of a key, in a table of the setup
key_here : (setup : Setup) (tables : List TableState) (table : ℕ) (key : Key) → AreTablesOf setup tables → nat_lt table (length setup.tables) ≡ true → HasShard tables table (shard key setup.shards)
key_here setup tables table key are within =
    let below : table < length tables = omega (arith, lt-from table (length setup.tables) within, are.count) in
    in_table (slice_get tables table) refl below
  where
    in_table : (o : Option TableState) → slice_get tables table ≡ o → table < length tables → HasShard tables table (shard key setup.shards)
    in_table None is below = absurd (get_within tables table is below)
    in_table (Some found) is below =
        let count : length found.state.books ≡ setup.shards = (are.each table found is).2.in_shards in
        record { found = found; at = is; within = omega (arith, count, mod-lt (Rattle.stick_key.specs.Shard.fnv1a key) are.some) }

state_at : (tables : List TableState) (table part : ℕ) → HasShard tables table part → (live : State) × (shard_at tables table part ≡ Some live)
state_at tables table part has = in_shard (slice_get has.found.state.books part) refl
  where
    in_shard : (o : Option BookState) → slice_get has.found.state.books part ≡ o → (live : State) × (shard_at tables table part ≡ Some live)
    in_shard None is = absurd (get_within has.found.state.books part is has.within)
    in_shard (Some book) is = (book.live, ap (λ o. option_and_then (λ (found : TableState). shard_of found.state.books part) o) has.at ∙ ap (option_map (λ (b : BookState). b.live)) is)

-- ---- what a call asks

-- an event of a key, and one of a reference that is held
of_key : (setup : Setup) (tables : List TableState) (table : ℕ) (key : Key) (event : Event) → AreTablesOf setup tables → nat_lt table (length setup.tables) ≡ true → ((live : State) → is_out live event ≡ true)
    → HasShard tables table (shard key setup.shards) × IsOutNow tables (record { table = table; shard = shard key setup.shards; event = event })
of_key setup tables table key event are within out =
    let has = key_here setup tables table key are within in
    let live = state_at tables table (shard key setup.shards) has in
    (has, record { live = live.0; at = live.1; out = out live.0 })

-- what a call asks is there
abbrev pub CanAsk : List TableState → Call → Type 0
CanAsk tables call = HasShard tables call.table call.shard × IsOutNow tables call

of_held : (tables : List TableState) (ask : Ticket → Event) (entry : Option (ℕ × Reference)) (call : Call) → ((found : ℕ × Reference) → entry ≡ Some found → 1 ≤ times_out found tables)
    → ((live : State) (ticket : Ticket) → is_out live (ask ticket) ≡ is_some (key_of ticket live.tickets)) → call_by ask entry ≡ Some call → CanAsk tables call
of_held tables ask None call out asks is = cc
of_held tables ask (Some entry) call out asks is =
    let here = out_here tables entry (out entry refl) in
    let made : Call = record { table = entry.0; shard = entry.1.shard; event = ask entry.1.ticket } in
    subst (CanAsk tables) (the_same made call is) (found_at tables entry.0 entry.1.shard here.0 here.1, record { live = here.0; at = here.1; out = asks here.0 entry.1.ticket ∙ here.2 })
  where
    the_same : (a b : Call) → Some a ≡ Some b → a ≡ b
    the_same a b e = cc

pub can_ask : (setup : Setup) (tables : List TableState) (now : ℕ) (held : Held Reference) (wanted : Need) (call : Call) → AreTablesOf setup tables → IsCovered tables held → names_table_of setup wanted ≡ true
    → call_of setup.shards now held wanted ≡ Some call → CanAsk tables call
can_ask setup tables now held (needs.Get table key) call are covered within is = subst (CanAsk tables) (let e : record { table = table; shard = shard key setup.shards; event = events.Get now key } ≡ call = cc in e) (of_key setup tables table key (events.Get now key) are within (λ live. refl))
can_ask setup tables now held (needs.Track slot table key) call are covered within is = subst (CanAsk tables) (let e : record { table = table; shard = shard key setup.shards; event = events.Track now key } ≡ call = cc in e) (of_key setup tables table key (events.Track now key) are within (λ live. refl))
can_ask setup tables now held (needs.Look slot) call are covered within is = of_held tables (λ ticket. events.Look now ticket) (held_at held slot) call (λ found at. held_out tables held slot found covered at) (λ live ticket. refl) is
can_ask setup tables now held (needs.Count slot act) call are covered within is = of_held tables (λ ticket. events.Count now ticket act) (held_at held slot) call (λ found at. held_out tables held slot found covered at) (λ live ticket. refl) is
can_ask setup tables now held (needs.Release slot) call are covered within is = of_held tables (λ ticket. events.Release now ticket) (held_at held slot) call (λ found at. held_out tables held slot found covered at) (λ live ticket. refl) is
can_ask setup tables now held needs.Rest call are covered within is = cc
can_ask setup tables now held needs.Turn call are covered within is = cc
can_ask setup tables now held needs.Finished call are covered within is = cc
