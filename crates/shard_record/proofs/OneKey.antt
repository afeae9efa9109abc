-- By a record a ticket is out by one key alone.
use Rattle.std.proofs.Common.{◌≡◌, ℕ, ◌+◌, ◌≤◌, ◌<◌, refl, sym, ap, subst, ◌∙◌, arith, true, false, cond, ◌&&◌, not, nat_eq, ⊎_elim, List, [], ◌∷◌, ◌++◌, append_assoc, Option, Some, None}
use Rattle.std.specs.List.{AllByRecursion}
use Rattle.std.proofs.lemmas.Bool.Decides.{nat_tests}
use Rattle.std.proofs.lemmas.List.{append-nil}
use mathlib.Core.List.{IsPrefix}
use Rattle.stick_model.specs.Key.{Key}
use Rattle.stick_model.specs.State.{State, key_of, same_ticket}
use Rattle.stick_model.specs.Laws.{tickets_told}
use Rattle.stick_model.specs.declared.rows.Row.{Row}
use Rattle.stick_model.specs.declared.rows.Ticket.{Ticket}
use Rattle.stick_model.specs.declared.events.Event.{Event}
use Rattle.stick_model.specs.declared.events.Event.TheVariants.{Release}
use Rattle.stick_model.specs.declared.replies.Reply.{Reply}
use Rattle.stick_model.specs.declared.replies.Reply.TheVariants.{Absent, Row as ARow, NoRefs, Full, Tracked, Value, Released, NotSettable, NotStored, Written, InUse, Removed, Cleared, Rows, Expired}
use Rattle.stick_model.proofs.LegalLemmas.{step_ticket_number}
use Rattle.stick_model.proofs.StepLemmas.{AllByRecursion-filter, AllByRecursion-implies, AllByRecursion-push, step_events, step_tickets}
use Rattle.shard_record.specs.declared.view.Call.{Call}
use Rattle.shard_record.specs.Calls.{Answers, Held, IsHistoryOf, IsRecord, KeyLaw, call, out}
use Rattle.shard_record.proofs.Records.{history_out, history_part}
use Rattle.shard_record.proofs.Tickets.{changes, same_exact, same_self}

-- ---- the key by which a ticket was told first

abbrev told_here : Ticket → Reply → Option Key → Option Key
told_here ticket (Tracked new row) later = cond (same_ticket ticket new) (Some row.key) later
told_here ticket reply later = later

abbrev pub told_key : Ticket → List Call → Option Key
told_key ticket [] = None
told_key ticket (one ∷ log) = told_here ticket one.reply (told_key ticket log)

-- it stays, or a later call tells it
or_later : (ticket : Ticket) (reply : Reply) (key : Key) (before after : Option Key) → (before ≡ Some key → after ≡ Some key) → told_here ticket reply before ≡ Some key → told_here ticket reply after ≡ Some key
or_later ticket (Tracked new row) key before after more is =
    elim (same_ticket ticket new) as (λ b. cond b (Some row.key) before ≡ Some key → cond b (Some row.key) after ≡ Some key) [ true ↦ λ h. h | false ↦ more ] is
or_later ticket Absent key before after more is = more is
or_later ticket (ARow row) key before after more is = more is
or_later ticket NoRefs key before after more is = more is
or_later ticket Full key before after more is = more is
or_later ticket (Value value) key before after more is = more is
or_later ticket Released key before after more is = more is
or_later ticket (NotSettable field) key before after more is = more is
or_later ticket (NotStored field) key before after more is = more is
or_later ticket (Written created) key before after more is = more is
or_later ticket InUse key before after more is = more is
or_later ticket Removed key before after more is = more is
or_later ticket (Cleared removed kept) key before after more is = more is
or_later ticket (Rows used rows) key before after more is = more is
or_later ticket (Expired count) key before after more is = more is

told_later : (ticket : Ticket) (key : Key) (log rest : List Call) → told_key ticket log ≡ Some key → told_key ticket (log ++ rest) ≡ Some key
told_later ticket key [] rest is = absurd (cc (is))
told_later ticket key (one ∷ log) rest is = or_later ticket one.reply key (told_key ticket log) (told_key ticket (log ++ rest)) (told_later ticket key log rest) is

-- ---- numbers rise

-- each ticket that a reply tells has a number up to this
abbrev NumberHere : ℕ → Reply → Type 0
NumberHere n (Tracked ticket row) = ticket.number ≤ n
NumberHere n reply = Unit {0}

abbrev Told : ℕ → List Call → Type 0
Told n log = AllByRecursion (λ (one : Call). NumberHere n one.reply) log

number_later : (n m : ℕ) → n ≤ m → (reply : Reply) → NumberHere n reply → NumberHere m reply
number_later n m le (Tracked ticket row) is = omega (arith, le, is)
number_later n m le Absent is = tt
number_later n m le (ARow row) is = tt
number_later n m le NoRefs is = tt
number_later n m le Full is = tt
number_later n m le (Value value) is = tt
number_later n m le Released is = tt
number_later n m le (NotSettable field) is = tt
number_later n m le (NotStored field) is = tt
number_later n m le (Written created) is = tt
number_later n m le InUse is = tt
number_later n m le Removed is = tt
number_later n m le (Cleared removed kept) is = tt
number_later n m le (Rows used rows) is = tt
number_later n m le (Expired count) is = tt

-- a ticket whose number is above is told by none of them, and so by the next
new_here : (ticket : Ticket) (key : Key) (n : ℕ) → n < ticket.number → (reply : Reply) → NumberHere n reply → (later : Option Key) → later ≡ Some key → told_here ticket reply later ≡ Some key
new_here ticket key n above (Tracked new row) is later then =
    let differ : nat_eq ticket.number new.number ≡ false = apart ticket.number new.number (omega (arith, above, is)) in
    ap (λ b. cond (b && nat_eq ticket.slot new.slot) (Some row.key) later) differ ∙ then
  where
    apart : (a b : ℕ) → b < a → nat_eq a b ≡ false
    apart a b lt = grind (arith, nat_tests)
new_here ticket key n above Absent is later then = then
new_here ticket key n above (ARow row) is later then = then
new_here ticket key n above NoRefs is later then = then
new_here ticket key n above Full is later then = then
new_here ticket key n above (Value value) is later then = then
new_here ticket key n above Released is later then = then
new_here ticket key n above (NotSettable field) is later then = then
new_here ticket key n above (NotStored field) is later then = then
new_here ticket key n above (Written created) is later then = then
new_here ticket key n above InUse is later then = then
new_here ticket key n above Removed is later then = then
new_here ticket key n above (Cleared removed kept) is later then = then
new_here ticket key n above (Rows used rows) is later then = then
new_here ticket key n above (Expired count) is later then = then

told_new : (ticket : Ticket) (row : Row) (seat : ℕ) (event : Event) (n : ℕ) (log : List Call) → n < ticket.number → Told n log → told_key ticket (log ++ call seat event (Tracked ticket row) ∷ []) ≡ Some row.key
told_new ticket row seat event n [] above told = ap (λ b. cond b (Some row.key) None) (same_self ticket)
told_new ticket row seat event n (one ∷ log) above told = new_here ticket row.key n above one.reply told.0 _ (told_new ticket row seat event n log above told.1)

-- ---- a record

-- each ticket that is out is out by the key by which it was told first
abbrev ByFirst : List Call → List Held → Type 0
ByFirst log tickets = AllByRecursion (λ (held : Held). told_key held.0 log ≡ Some held.1) tickets

number_of : (old : State) (seat : ℕ) (event : Event) (reply : Reply) (new : State) → Answers old event reply new → NumberHere (old.events + 1) reply
number_of old seat event (Tracked ticket row) new is = omega (arith, step_ticket_number old event ticket row new is.step)
number_of old seat event Absent new is = tt
number_of old seat event (ARow row) new is = tt
number_of old seat event NoRefs new is = tt
number_of old seat event Full new is = tt
number_of old seat event (Value value) new is = tt
number_of old seat event Released new is = tt
number_of old seat event (NotSettable field) new is = tt
number_of old seat event (NotStored field) new is = tt
number_of old seat event (Written created) new is = tt
number_of old seat event InUse new is = tt
number_of old seat event Removed new is = tt
number_of old seat event (Cleared removed kept) new is = tt
number_of old seat event (Rows used rows) new is = tt
number_of old seat event (Expired count) new is = tt

first_more : (log : List Call) (one : Call) (tickets : List Held) → ByFirst log tickets → ByFirst (log ++ one ∷ []) tickets
first_more log one tickets by = AllByRecursion-implies (λ (held : Held). told_key held.0 log ≡ Some held.1) (λ (held : Held). told_key held.0 (log ++ one ∷ []) ≡ Some held.1) (λ held is. told_later held.0 held.1 log (one ∷ []) is) tickets by

first_step : (log : List Call) (old : State) (seat : ℕ) (event : Event) (reply : Reply) (new : State) → Answers old event reply new → Told old.events log → ByFirst log old.tickets → ByFirst (log ++ call seat event reply ∷ []) (tickets_told event reply old.tickets)
first_step log old seat event reply new is told by = ⊎_elim tracked (λ other. ⊎_elim released same other) (changes event reply)
  where
    Goal : Event → Reply → Type 0
    Goal e r = ByFirst (log ++ call seat e r ∷ []) (tickets_told e r old.tickets)

    more : (e : Event) (r : Reply) → ByFirst (log ++ call seat e r ∷ []) old.tickets
    more e r = first_more log (call seat e r) old.tickets by

    tracked : (ticket : Ticket) × (row : Row) × (reply ≡ Tracked ticket row) → Goal event reply
    tracked t =
        let number : t.0.number ≡ old.events + 1 = step_ticket_number old event t.0 t.1 new (subst (λ r. Answers old event r new) t.2 is).step in
        subst (Goal event) (sym t.2) (AllByRecursion-push (λ (held : Held). told_key held.0 (log ++ call seat event (Tracked t.0 t.1) ∷ []) ≡ Some held.1) old.tickets (t.0, t.1.key) (more event (Tracked t.0 t.1))
        (told_new t.0 t.1 seat event old.events log (omega (arith, number)) told))

    gone : (now : ℕ) (ticket : Ticket) → Goal (Release now ticket) Released
    gone now ticket = AllByRecursion-filter (λ (held : Held). told_key held.0 (log ++ call seat (Release now ticket) Released ∷ []) ≡ Some held.1) (λ held. not (same_ticket ticket held.0)) old.tickets (more (Release now ticket) Released)

    released : (now : ℕ) × (ticket : Ticket) × (event ≡ Release now ticket) × (reply ≡ Released) → Goal event reply
    released r = subst (Goal event) (sym r.3) (subst (λ e. Goal e Released) (sym r.2) (gone r.0 r.1))

    same : ((ts : List Held) → tickets_told event reply ts ≡ ts) → Goal event reply
    same s = subst (ByFirst (log ++ call seat event reply ∷ [])) (sym (s old.tickets)) (more event reply)

told_step : (log : List Call) (old : State) (seat : ℕ) (event : Event) (reply : Reply) (new : State) → Answers old event reply new → Told old.events log → Told new.events (log ++ call seat event reply ∷ [])
told_step log old seat event reply new is told =
    let events : new.events ≡ old.events + 1 = step_events old event reply new is.step in
    let up : Told new.events log = AllByRecursion-implies (λ (one : Call). NumberHere old.events one.reply) (λ (one : Call). NumberHere new.events one.reply) (λ one n. number_later old.events new.events (omega (arith, events)) one.reply n) log told in
    AllByRecursion-push (λ (one : Call). NumberHere new.events one.reply) log (call seat event reply) up
    (subst (λ m. NumberHere m reply) (sym events) (number_of old seat event reply new is))

-- the calls before, and those of the record
first_run : (before log : List Call) (old new : State) → Told old.events before → ByFirst before old.tickets → IsRecord old log new → ByFirst (before ++ log) new.tickets
first_run before [] old new told by is = subst (λ l. ByFirst l new.tickets) (sym (append-nil before)) (subst (λ (s : State). ByFirst before s.tickets) (sym is) by)
first_run before (one ∷ log) old new told by is =
    let next : ByFirst (before ++ one ∷ []) is.0.tickets = subst (ByFirst (before ++ one ∷ [])) (sym (step_tickets old one.event one.reply is.0 is.1.step)) (first_step before old one.seat one.event one.reply is.0 is.1 told by) in
    subst (λ l. ByFirst l new.tickets) (append_assoc before (one ∷ []) log)
    (first_run (before ++ one ∷ []) log is.0 new (told_step before old one.seat one.event one.reply is.0 is.1 told) next is.2)

first_history : (log : List Call) (live : State) → IsHistoryOf log live → ByFirst log (out log)
first_history log live is =
    let none : ByFirst [] is.start.tickets = subst (λ (s : State). ByFirst [] s.tickets) (sym is.begins.empty) tt in
    subst (ByFirst log) (history_out log live is) (first_run [] log is.start live tt none is.runs)

first_key : (ticket : Ticket) (key : Key) (log : List Call) (tickets : List Held) → ByFirst log tickets → key_of ticket tickets ≡ Some key → told_key ticket log ≡ Some key
first_key ticket key log [] by is = absurd (cc (is))
first_key ticket key log (held ∷ tickets) by is =
    elim (same_ticket ticket held.0) as (λ b. same_ticket ticket held.0 ≡ b → cond b (Some held.1) (key_of ticket tickets) ≡ Some key → told_key ticket log ≡ Some key) [
      | true ↦ λ this h. subst (λ t. told_key t log ≡ Some held.1) (sym (same_exact ticket held.0 this)) by.0 ∙ h
      | false ↦ λ _ rest. first_key ticket key log tickets by.1 rest
    ] refl is

-- by a beginning of a history a ticket is out by the key by which the whole tells it
first_in : (log one : List Call) (live : State) (ticket : Ticket) (key : Key) → IsHistoryOf log live → IsPrefix one log → key_of ticket (out one) ≡ Some key → told_key ticket log ≡ Some key
first_in log one live ticket key is begins out_by =
    let part = history_part one log live begins is in
    subst (λ l. told_key ticket l ≡ Some key) begins.1 (told_later ticket key one begins.0 (first_key ticket key one (out one) (first_history one part.0 part.1) out_by))

pub one_key-law : KeyLaw
one_key-law log one other ticket key another is begins begins_other by by_other =
    let first : told_key ticket log ≡ Some key = first_in log one is.0 ticket key is.1 begins by in
    let second : told_key ticket log ≡ Some another = first_in log other is.0 ticket another is.1 begins_other by_other in
    let both : ◌≡◌ {A = Option Key} (Some another) (Some key) = sym second ∙ first in
    injective both
  where
    injective : {a b : Key} → ◌≡◌ {A = Option Key} (Some a) (Some b) → a ≡ b
    injective e = cc (e)
