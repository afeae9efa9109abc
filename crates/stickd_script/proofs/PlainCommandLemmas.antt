-- A step that a command asks is the same on states that differ in the slots of references alone.
use Rattle.std.proofs.Common.{◌≡◌, ℕ, refl, sym, ap, ◌∙◌, ◌&&◌, Bool, true, false, not, nat_lt, cond, if◌then◌else◌, List, length, map, filter, Option, Some, None, is_some, unwrap_or}
use Rattle.std.specs.Option.{option_map_or}
use Rattle.std.specs.Prelude.{count_by, option_map}
use Rattle.std.proofs.lemmas.Bool.{false≢true}
use Rattle.stored_data.specs.Acts.{value_at}
use Rattle.stick_model.specs.Filters.{compares, is_matched, not_stored, passes}
use Rattle.stick_model.specs.Key.{Key}
use Rattle.stick_model.specs.State.{State, is_tracked, record_at, row_of}
use Rattle.stick_model.specs.Step.{Outcome, Step, after, begun, clear, clear_where, cleared, expire, list, put, put_allowed, put_fault, slot_of, written, without_record}
use Rattle.stick_model.specs.declared.events.Event.{Event}
use Rattle.stick_model.specs.declared.events.Event.TheVariants as events
use Rattle.stick_model.specs.declared.filters.Filter.{Filter}
use Rattle.stick_model.specs.declared.filters.Filter.TheVariants as filters
use Rattle.stick_model.specs.declared.replies.Reply.{Reply}
use Rattle.stick_model.specs.declared.replies.Reply.TheVariants as replies
use Rattle.stick_model.specs.declared.rows.Cell.{Cell}
use Rattle.stick_model.specs.declared.rows.Record.{Record}
use Rattle.stick_model.specs.declared.rows.Ticket.{Ticket}
use Rattle.admit_drive.proofs.PlainLemmas.{begun_plain, plain, plain_tickets, refs_plain, stored_plain}

-- the reply, and the state without slots
abbrev pub seen : Outcome → Outcome
seen outcome = (outcome.0, plain outcome.1)

-- ---- filters

passes_plain : (clock : ℕ) (tickets : List (Ticket × Key)) (choice : Filter) (entry : Key × Record) → passes clock (plain_tickets tickets) choice entry ≡ passes clock tickets choice entry
passes_plain clock tickets filters.Everything entry = refl
passes_plain clock tickets filters.Nothing entry = refl
passes_plain clock tickets (filters.Key key) entry = refl
passes_plain clock tickets (filters.Compare datum op bound) entry = ap (λ n. compares op (unwrap_or (value_at entry.1.values datum clock) n) bound) (refs_plain entry.0 tickets)

matched_plain : (clock : ℕ) (tickets : List (Ticket × Key)) (choice : Filter) (wanted : Bool) (entry : Key × Record) → is_matched clock (plain_tickets tickets) choice wanted entry ≡ is_matched clock tickets choice wanted entry
matched_plain clock tickets choice wanted entry =
    (λ i. if nat_lt 0 (refs_plain entry.0 tickets i) then wanted && passes_plain clock tickets choice entry i else not wanted && passes_plain clock tickets choice entry i)

-- ---- a begun event

put_plain : (state : State) (key : Key) (pairs : List Cell) → put (plain state) key pairs ≡ seen (put state key pairs)
put_plain state key pairs = by (put_fault state.spec.columns pairs)
  where
    kept : Record
    kept = written state key pairs

    room : (o : Option (List (Key × Record)))
        → option_map_or {U = Outcome} (λ new. (replies.Written (not (is_some (record_at key state.records))), new)) (option_map (λ records. record (plain state) { records = records }) o) (replies.Full, plain state)
        ≡ seen (option_map_or {U = Outcome} (λ new. (replies.Written (not (is_some (record_at key state.records))), new)) (option_map (λ records. record state { records = records }) o) (replies.Full, state))
    room None = refl
    room (Some records) = refl

    allowed : put_allowed (plain state) key pairs ≡ seen (put_allowed state key pairs)
    allowed =
        (λ i. option_map_or {U = Outcome} (λ new. (replies.Written (not (is_some (record_at key state.records))), new)) (option_map (λ records. record (plain state) { records = records }) (stored_plain state.spec state.tickets state.records key kept i)) (replies.Full, plain state))
        ∙ room _

    by : (fault : Option Reply) → option_map_or {U = Outcome} (λ fault. (fault, plain state)) fault (put_allowed (plain state) key pairs) ≡ seen (option_map_or {U = Outcome} (λ fault. (fault, state)) fault (put_allowed state key pairs))
    by None = allowed
    by (Some fault) = refl

clear_plain : (state : State) (key : Key) → clear (plain state) key ≡ seen (clear state key)
clear_plain state key =
    (λ i. if not (is_some (record_at key state.records)) then (replies.Absent, plain state) else (if nat_lt 0 (refs_plain key state.tickets i) then (replies.InUse, plain state) else (replies.Removed, without_record (plain state) key)))
    ∙ by (not (is_some (record_at key state.records))) (is_tracked key state.tickets)
  where
    by : (a b : Bool) → cond a (replies.Absent, plain state) (cond b (replies.InUse, plain state) (replies.Removed, without_record (plain state) key)) ≡ seen (cond a (replies.Absent, state) (cond b (replies.InUse, state) (replies.Removed, without_record state key)))
    by true b = refl
    by false true = refl
    by false false = refl

cleared_plain : (state : State) (choice : Filter) → cleared (plain state) choice ≡ seen (cleared state choice)
cleared_plain state choice =
    (λ i. (
      replies.Cleared (count_by (λ entry. matched_plain state.clock state.tickets choice false entry i) state.records) (count_by (λ entry. matched_plain state.clock state.tickets choice true entry i) state.records),
      record (plain state) { records = filter (λ entry. not (matched_plain state.clock state.tickets choice false entry i)) state.records },
    ))

clear_where_plain : (state : State) (choice : Filter) → clear_where (plain state) choice ≡ seen (clear_where state choice)
clear_where_plain state choice = ap (λ o. option_map_or {U = Outcome} (λ datum. (replies.NotStored datum, plain state)) (not_stored state.spec.columns choice) o) (cleared_plain state choice) ∙ by (not_stored state.spec.columns choice)
  where
    by : (fault : Option _) → option_map_or {U = Outcome} (λ datum. (replies.NotStored datum, plain state)) fault (seen (cleared state choice)) ≡ seen (option_map_or {U = Outcome} (λ datum. (replies.NotStored datum, state)) fault (cleared state choice))
    by None = refl
    by (Some datum) = refl

list_plain : (state : State) (choice : Filter) → list (plain state) choice ≡ seen (list state choice)
list_plain state choice =
    (λ i. (
      option_map_or replies.NotStored (not_stored state.spec.columns choice)
          (replies.Rows (length state.records) (map (λ (entry : Key × Record). row_of state.spec.columns state.clock (refs_plain entry.0 state.tickets i) entry.0 entry.1) (filter (λ entry. passes_plain state.clock state.tickets choice entry i) state.records))),
      plain state,
    ))

-- ---- a step

-- an event that a command makes
abbrev pub is_commanded : Event → Bool
is_commanded (events.Put now key pairs) = true
is_commanded (events.Clear now key) = true
is_commanded (events.ClearWhere now choice) = true
is_commanded (events.List now choice) = true
is_commanded (events.Expire now) = true
is_commanded event = false

after_command : (old : State) (event : Event) (slot : ℕ) → is_commanded event ≡ true → after (plain old) event 0 ≡ seen (after old event slot)
after_command old (events.Put now key pairs) slot commanded = ap (λ s. put s key pairs) (begun_plain old now) ∙ put_plain (begun old now) key pairs
after_command old (events.Clear now key) slot commanded = ap (λ s. clear s key) (begun_plain old now) ∙ clear_plain (begun old now) key
after_command old (events.ClearWhere now choice) slot commanded = ap (λ s. clear_where s choice) (begun_plain old now) ∙ clear_where_plain (begun old now) choice
after_command old (events.List now choice) slot commanded = ap (λ s. list s choice) (begun_plain old now) ∙ list_plain (begun old now) choice
after_command old (events.Expire now) slot commanded = ap (λ s. expire (plain old) s) (begun_plain old now)
after_command old (events.Get now key) slot commanded = absurd (false≢true commanded)
after_command old (events.Track now key) slot commanded = absurd (false≢true commanded)
after_command old (events.Look now ticket) slot commanded = absurd (false≢true commanded)
after_command old (events.Count now ticket act) slot commanded = absurd (false≢true commanded)
after_command old (events.Release now ticket) slot commanded = absurd (false≢true commanded)

pub record IsSame (one other : Reply) (new later : State) : Type 0 where
  pub reply : one ≡ other
  pub state : plain new ≡ plain later

pub command_once : (old again : State) (event : Event) (one other : Reply) (new later : State) → is_commanded event ≡ true → plain old ≡ plain again → Step old event one new → Step again event other later → IsSame one other new later
command_once old again event one other new later commanded same a b =
    let made : (one, plain new) ≡ (other, plain later) =
    sym (ap seen a.gives) ∙ sym (after_command old event (unwrap_or (slot_of one) 0) commanded) ∙ ap (λ s. after s event 0) same ∙ after_command again event (unwrap_or (slot_of other) 0) commanded ∙ ap seen b.gives in
    record { reply = ap (λ (o : Outcome). o.0) made; state = ap (λ (o : Outcome). o.1) made }
