-- What each event does.
use Rattle.std.specs.Prelude.{◌≡◌, ℕ, ◌+◌, ◌-◌, ◌<◌, nat_lt, nat_le, Bool, true, false, not, ◌&&◌, if◌then◌else◌, List, [], ◌∷◌, ◌++◌, length, map, filter, count_by, fold, Option, Some, None, unwrap_or, is_some, IsTrue}
use Rattle.std.specs.Option.{option_map_or, option_and_then}
use Rattle.std.specs.Map.{set_value}
use Rattle.stored_data.specs.Acts.{acted, answer, with_value}
use Rattle.stored_data.specs.Data.{is_settable}
use Rattle.stored_data.specs.Fields.{is_field}
use Rattle.stored_data.specs.declared.stored_set.Column.{Column}
use Rattle.stored_data.specs.declared.values.StoredValue.{StoredValue}
use Rattle.stored_data.specs.declared.act.Act.{Act}
use Rattle.stored_data.specs.declared.act.Act.TheVariants.{Connection}
use Rattle.stick_model.specs.Key.{Key, same_key}
use Rattle.stick_model.specs.State.{State, same_ticket, key_of, is_tracked, is_free, record_at, zero_record, touched, row, advance}
use Rattle.stick_model.specs.Room.{stored}
use Rattle.stick_model.specs.Filters.{passes, not_stored, is_matched}
use Rattle.stick_model.specs.declared.rows.Ticket.{Ticket}
use Rattle.stick_model.specs.declared.rows.Record.{Record}
use Rattle.stick_model.specs.declared.rows.Cell.{Cell}
use Rattle.stick_model.specs.declared.filters.Filter.{Filter}
use Rattle.stick_model.specs.declared.events.Event.{Event}
use Rattle.stick_model.specs.declared.events.Event.TheVariants.{Get, Track, Look, Count, Release, Put, Clear, ClearWhere, List as ListRows, Expire}
use Rattle.stick_model.specs.declared.replies.Reply.{Reply}
use Rattle.stick_model.specs.declared.replies.Reply.TheVariants.{Absent, Row as ARow, NoRefs, Full, Tracked, Value, Released, NotSettable, NotStored, Written, InUse, Removed, Cleared, Rows, Expired}

-- an event's moment has come, and it is counted
abbrev pub begun : State → ℕ → State
begun state moment = record (advance state moment) { events = state.events + 1 }

-- the event's reply and the state after it; each of those below begins in a state where the event has begun
abbrev pub Outcome : Type 0
Outcome = Reply × State

abbrev pub get : State → Key → Outcome
get state key = (option_map_or (λ found. ARow (row state key found)) (record_at key state.records) Absent, state)

-- ---- an entry, old or new

-- the record of the key, or a new one
abbrev pub found_or_zero : State → Key → Record
found_or_zero state key = unwrap_or (record_at key state.records) (zero_record state.spec.columns)

-- with this record for a key that has one
abbrev pub with_record : State → Key → Record → State
with_record state key found = record state { records = set_value (same_key key) state.records found }

abbrev pub with_ticket : State → Ticket → Key → State
with_ticket state ticket key = record state { tickets = state.tickets ++ (ticket, key) ∷ [] }

-- ---- references

-- the record of a key that is tracked once more: one connection is counted, and it is refreshed
abbrev pub connected : State → Key → Record
connected state key =
    let found : Record = found_or_zero state key in
    touched state (record found { values = acted found.values state.clock Connection })

abbrev pub tracked : State → Key → Record → Ticket → State → Outcome
tracked state key kept ticket roomy =
    let new : State = with_ticket roomy ticket key in
    (Tracked ticket (row new key kept), new)

abbrev pub track : State → Key → ℕ → Outcome
track state key slot =
    let kept : Record = connected state key in
    if nat_le state.spec.max_refs (length state.tickets) then (NoRefs, state)
    else option_map_or (tracked state key kept (record { number = state.events; slot = slot })) (stored state key kept) (Full, state)

-- where a ticket is out its key has a record
abbrev pub look : State → Ticket → Outcome
look state ticket = option_map_or (get state) (key_of ticket state.tickets) (Absent, state)

abbrev pub counted_at : State → Key → Act → Outcome
counted_at state key act =
    let found = found_or_zero state key in
    (Value (option_and_then (λ (kept : Record). answer kept.values state.clock act) (record_at key state.records)), with_record state key (record found { values = acted found.values state.clock act }))

abbrev pub count : State → Ticket → Act → Outcome
count state ticket act = option_map_or (λ key. counted_at state key act) (key_of ticket state.tickets) (Absent, state)

abbrev pub without_ticket : State → Ticket → State
without_ticket state ticket = record state { tickets = filter (λ (held : Ticket × Key). not (same_ticket ticket held.0)) state.tickets }

abbrev pub released_at : State → Ticket → Key → State
released_at state ticket key = with_record (without_ticket state ticket) key (touched state (found_or_zero state key))

abbrev pub release : State → Ticket → Outcome
release state ticket = option_map_or {U = Outcome} (λ key. (Released, released_at state ticket key)) (key_of ticket state.tickets) (Absent, state)

-- ---- commands

-- what the first pair that can't be put is answered
abbrev pub put_fault : List Column → List Cell → Option Reply
put_fault columns [] = None
put_fault columns (pair ∷ pairs) =
    if not (is_settable pair.field.datum) then Some (NotSettable pair.field)
    else (if not (is_field columns pair.field) then Some (NotStored pair.field)
    else put_fault columns pairs)

abbrev pub put_pairs : List Cell → List StoredValue → List StoredValue
put_pairs pairs fields = fold (λ kept (pair : Cell). with_value kept pair.field pair.value) fields pairs

abbrev pub written : State → Key → List Cell → Record
written state key pairs =
    let found : Record = found_or_zero state key in
    touched state (record found { values = put_pairs pairs found.values })

abbrev pub put_allowed : State → Key → List Cell → Outcome
put_allowed state key pairs =
    option_map_or {U = Outcome} (λ new. (Written (not (is_some (record_at key state.records))), new)) (stored state key (written state key pairs)) (Full, state)

abbrev pub put : State → Key → List Cell → Outcome
put state key pairs = option_map_or {U = Outcome} (λ fault. (fault, state)) (put_fault state.spec.columns pairs) (put_allowed state key pairs)

abbrev pub without_record : State → Key → State
without_record state key = record state { records = filter (λ (entry : Key × Record). not (same_key key entry.0)) state.records }

abbrev pub clear : State → Key → Outcome
clear state key =
    if not (is_some (record_at key state.records)) then (Absent, state)
    else (if is_tracked key state.tickets then (InUse, state)
    else (Removed, without_record state key))

-- the untracked that match are gone; it tells how many they were, and how many tracked ones match
abbrev pub cleared : State → Filter → Outcome
cleared state choice =
    let matched = is_matched state.clock state.tickets choice in (
      Cleared (count_by (matched false) state.records) (count_by (matched true) state.records),
      record state { records = filter (λ entry. not (matched false entry)) state.records },
    )

abbrev pub clear_where : State → Filter → Outcome
clear_where state choice = option_map_or {U = Outcome} (λ field. (NotStored field, state)) (not_stored state.spec.columns choice) (cleared state choice)

abbrev pub listed : State → Filter → Reply
listed state choice = Rows (length state.records) (map (λ (entry : Key × Record). row state entry.0 entry.1) (filter (passes state.clock state.tickets choice) state.records))

abbrev pub list : State → Filter → Outcome
list state choice = (option_map_or NotStored (not_stored state.spec.columns choice) (listed state choice), state)

abbrev pub expire : State → State → Outcome
expire before state = (Expired (length before.records - length state.records), state)

-- ---- steps

-- the reply to an event and the state after it, where a reference that it makes gets this slot
abbrev pub after : State → Event → ℕ → Outcome
after state (Get now key) slot = get (begun state now) key
after state (Track now key) slot = track (begun state now) key slot
after state (Look now ticket) slot = look (begun state now) ticket
after state (Count now ticket act) slot = count (begun state now) ticket act
after state (Release now ticket) slot = release (begun state now) ticket
after state (Put now key pairs) slot = put (begun state now) key pairs
after state (Clear now key) slot = clear (begun state now) key
after state (ClearWhere now choice) slot = clear_where (begun state now) choice
after state (ListRows now choice) slot = list (begun state now) choice
after state (Expire now) slot = expire state (begun state now)

-- the slot that a reply tells
abbrev pub slot_of : Reply → Option ℕ
slot_of (Tracked ticket row) = Some ticket.slot
slot_of _ = None

-- whether a reply shows rows, and whether an event asks for some
abbrev pub shows_rows : Reply → Bool
shows_rows (ARow row) = true
shows_rows (Tracked ticket row) = true
shows_rows (Rows used rows) = true
shows_rows _ = false

abbrev pub asks_rows : Event → Bool
asks_rows (Get now key) = true
asks_rows (Track now key) = true
asks_rows (Look now ticket) = true
asks_rows (ListRows now choice) = true
asks_rows _ = false

-- the ticket that an event names
abbrev pub ticket_of : Event → Option Ticket
ticket_of (Look now ticket) = Some ticket
ticket_of (Count now ticket act) = Some ticket
ticket_of (Release now ticket) = Some ticket
ticket_of _ = None

-- the key that an event is of: that which it names, or that of its ticket
abbrev pub subject_of : State → Event → Option Key
subject_of old (Track now key) = Some key
subject_of old (Put now key pairs) = Some key
subject_of old (Count now ticket act) = key_of ticket old.tickets
subject_of old (Release now ticket) = key_of ticket old.tickets
subject_of old event = None

-- whether the ticket that it names, if it names one, is out
abbrev pub is_out : State → Event → Bool
is_out state event = option_map_or (λ ticket. is_some (key_of ticket state.tickets)) (ticket_of event) true

-- whether the event may make a reference: it tracks, and fewer are out than may be
abbrev pub MayTrack : State → Event → Type 0
MayTrack state (Track now key) = length state.tickets < state.spec.max_refs
MayTrack state _ = ⊥

abbrev pub is_free_slot : State → ℕ → Bool
is_free_slot state slot = nat_lt slot state.spec.max_refs && is_free slot state.tickets

-- from `old` the event may be answered so, and leave `new`
pub record Step (old : State) (event : Event) (reply : Reply) (new : State) : Type 0 where
  pub out : IsTrue (is_out old event)
  pub gives : after old event (unwrap_or (slot_of reply) 0) ≡ (reply, new)
  pub free : IsTrue (option_map_or (is_free_slot old) (slot_of reply) true)
