-- What a reply tells of slots and rows.
use Rattle.std.proofs.Common.{◌≡◌, ℕ, ◌<◌, refl, sym, subst, ap, arith, List, [], ◌∷◌, length, Bool, true, false, cond, not, nat_le, Option, None, Some, IfSome, is_some, unwrap_or, ◌∙◌}
use Rattle.std.specs.Option.{option_map_or}
use Rattle.std.proofs.lemmas.Bool.{false≢true}
use Rattle.std.proofs.lemmas.Bool.Decides.{nat_tests}
use Rattle.stored_data.specs.Data.{is_settable}
use Rattle.stored_data.specs.Fields.{is_field}
use Rattle.stored_data.specs.declared.stored_set.Column.{Column}
use Rattle.stored_data.specs.declared.act.Act.{Act}
use Rattle.stick_model.specs.Key.{Key}
use Rattle.stick_model.specs.State.{State, key_of, is_tracked, record_at, row}
use Rattle.stick_model.specs.Room.{stored}
use Rattle.stick_model.specs.Filters.{not_stored}
use Rattle.stick_model.specs.Step.{Outcome, Step, MayTrack, is_out, is_free_slot, slot_of, shows_rows, asks_rows, after, begun, get, look, count, counted_at, release, released_at, connected, track, tracked, put, put_fault, put_allowed, written, clear, clear_where, cleared, list, listed, without_record}
use Rattle.stick_model.specs.Run.{redone, CanRedo}
use Rattle.stick_model.specs.declared.events.Stored.{Stored}
use Rattle.stick_model.specs.declared.rows.Ticket.{Ticket}
use Rattle.stick_model.specs.declared.rows.Cell.{Cell}
use Rattle.stick_model.specs.declared.rows.Record.{Record}
use Rattle.stick_model.specs.declared.filters.Filter.{Filter}
use Rattle.stick_model.specs.declared.events.Event.{Event}
use Rattle.stick_model.specs.declared.events.Event.TheVariants.{Get, Track, Look, Count, Release, Put, Clear, ClearWhere, List as ListRows, Expire}
use Rattle.stick_model.specs.declared.replies.Reply.{Reply}
use Rattle.stick_model.specs.declared.replies.Reply.TheVariants.{Absent, Row as ARow, NoRefs, Full, Released, NotSettable, NotStored, Written, InUse, Removed}

-- the reply tells no slot
abbrev TellsNone : Outcome → Type 0
TellsNone o = slot_of o.0 ≡ None

-- it tells no slot, and shows no rows
abbrev IsPlain : Outcome → Type 0
IsPlain o = (slot_of o.0 ≡ None) × (shows_rows o.0 ≡ false)

either : {A : Type 0} (P : Outcome → Type 0) (f : A → Outcome) (o : Option A) (z : Outcome) → IfSome o (λ a. P (f a)) → P z → P (option_map_or {U = Outcome} f o z)
either P f None z h k = k
either P f (Some a) z h k = h

always : {A : Type 0} (P : A → Type 0) (o : Option A) → ((a : A) → P a) → IfSome o P
always P None h = tt
always P (Some a) h = h a

-- ---- replies that show rows

get-none : (state : State) (key : Key) → TellsNone (get state key)
get-none state key = elim (record_at key state.records) as (λ o. slot_of (option_map_or (λ found. ARow (row state key found)) o Absent) ≡ None) [ None ↦ refl | Some found ↦ refl ]

look-none : (state : State) (ticket : Ticket) → TellsNone (look state ticket)
look-none state ticket = either TellsNone (get state) (key_of ticket state.tickets) (Absent, state) (always (λ key. TellsNone (get state key)) (key_of ticket state.tickets) (get-none state)) refl

list-none : (state : State) (choice : Filter) → TellsNone (list state choice)
list-none state choice = elim (not_stored state.spec.columns choice) as (λ o. slot_of (option_map_or NotStored o (listed state choice)) ≡ None) [ None ↦ refl | Some field ↦ refl ]

-- ---- replies that show none

count-plain : (state : State) (ticket : Ticket) (act : Act) → IsPlain (count state ticket act)
count-plain state ticket act =
    either IsPlain (λ key. counted_at state key act) (key_of ticket state.tickets) (Absent, state) (always (λ key. IsPlain (counted_at state key act)) (key_of ticket state.tickets) (λ key. (refl, refl))) (refl, refl)

release-plain : (state : State) (ticket : Ticket) → IsPlain (release state ticket)
release-plain state ticket =
    either IsPlain (λ key. (Released, released_at state ticket key)) (key_of ticket state.tickets) (Absent, state) (always (λ key. IsPlain (Released, released_at state ticket key)) (key_of ticket state.tickets) (λ key. (refl, refl))) (refl, refl)

fault-plain : (state : State) (columns : List Column) (pairs : List Cell) → IfSome (put_fault columns pairs) (λ fault. IsPlain (fault, state))
fault-plain state columns [] = tt
fault-plain state columns (pair ∷ pairs) =
    elim (is_settable pair.field.datum) as (λ settable. IfSome (cond (not settable) (Some (NotSettable pair.field)) (cond (not (is_field columns pair.field)) (Some (NotStored pair.field)) (put_fault columns pairs))) (λ fault. IsPlain (fault, state))) [
      | false ↦ (refl, refl)
      | true ↦ elim (is_field columns pair.field) as (λ stores. IfSome (cond (not stores) (Some (NotStored pair.field)) (put_fault columns pairs)) (λ fault. IsPlain (fault, state))) [
        | false ↦ (refl, refl)
        | true ↦ fault-plain state columns pairs
      ]
    ]

put_allowed-plain : (state : State) (key : Key) (pairs : List Cell) → IsPlain (put_allowed state key pairs)
put_allowed-plain state key pairs =
    let created = not (is_some (record_at key state.records)) in
    let room = stored state key (written state key pairs) in
    either IsPlain (λ new. (Written created, new)) room (Full, state) (always (λ new. IsPlain (Written created, new)) room (λ new. (refl, refl))) (refl, refl)

put-plain : (state : State) (key : Key) (pairs : List Cell) → IsPlain (put state key pairs)
put-plain state key pairs =
    either IsPlain (λ fault. (fault, state)) (put_fault state.spec.columns pairs) (put_allowed state key pairs) (fault-plain state state.spec.columns pairs) (put_allowed-plain state key pairs)

abbrev clear-there : State → Key → Bool → Outcome
clear-there state key held = cond {A = Outcome} held (InUse, state) (Removed, without_record state key)

clear-plain : (state : State) (key : Key) → IsPlain (clear state key)
clear-plain state key =
    elim (is_some (record_at key state.records)) as (λ there. IsPlain (cond {A = Outcome} (not there) (Absent, state) (clear-there state key (is_tracked key state.tickets)))) [
      | false ↦ (refl, refl)
      | true ↦ elim (is_tracked key state.tickets) as (λ held. IsPlain (clear-there state key held)) [ false ↦ (refl, refl) | true ↦ (refl, refl) ]
    ]

clear_where-plain : (state : State) (choice : Filter) → IsPlain (clear_where state choice)
clear_where-plain state choice =
    let missing = not_stored state.spec.columns choice in
    either IsPlain (λ field. (NotStored field, state)) missing (cleared state choice) (always (λ field. IsPlain (NotStored field, state)) missing (λ field. (refl, refl))) (refl, refl)

-- ---- all events

-- only an event that asks for rows is shown some
pub rows_told : (old : State) (event : Event) (slot : ℕ) → asks_rows event ≡ false → shows_rows (after old event slot).0 ≡ false
rows_told old (Get now key) slot asks = absurd (false≢true (sym asks))
rows_told old (Track now key) slot asks = absurd (false≢true (sym asks))
rows_told old (Look now ticket) slot asks = absurd (false≢true (sym asks))
rows_told old (ListRows now choice) slot asks = absurd (false≢true (sym asks))
rows_told old (Count now ticket act) slot asks = (count-plain (begun old now) ticket act).1
rows_told old (Release now ticket) slot asks = (release-plain (begun old now) ticket).1
rows_told old (Put now key pairs) slot asks = (put-plain (begun old now) key pairs).1
rows_told old (Clear now key) slot asks = (clear-plain (begun old now) key).1
rows_told old (ClearWhere now choice) slot asks = (clear_where-plain (begun old now) choice).1
rows_told old (Expire now) slot asks = refl

-- the slot that a reply tells is the one that was given, and a reference could be made
abbrev pub TellsSlot : State → Event → ℕ → Outcome → Type 0
TellsSlot old event slot outcome = IfSome (slot_of outcome.0) (λ told. (told ≡ slot) × MayTrack old event)

tells-none : (old : State) (event : Event) (slot : ℕ) (outcome : Outcome) → TellsNone outcome → TellsSlot old event slot outcome
tells-none old event slot outcome none = subst (λ told. IfSome told (λ s. (s ≡ slot) × MayTrack old event)) (sym none) tt

below-from : (a b : ℕ) → nat_le a b ≡ false → b < a
below-from a b h = grind (arith, nat_tests)

-- a key that is tracked where references are left
abbrev tracked-with : State → Key → ℕ → Outcome
tracked-with state key slot =
    let kept : Record = connected state key in
    option_map_or (tracked state key kept (record { number = state.events; slot = slot })) (stored state key kept) (Full, state)

track-tells : (old : State) (now : ℕ) (key : Key) (slot : ℕ) → TellsSlot old (Track now key) slot (track (begun old now) key slot)
track-tells old now key slot = tells (nat_le old.spec.max_refs (length old.tickets)) refl
  where
    tells : (full : Bool) → nat_le old.spec.max_refs (length old.tickets) ≡ full → TellsSlot old (Track now key) slot (cond {A = Outcome} full (NoRefs, begun old now) (tracked-with (begun old now) key slot))
    tells true is = tt
    tells false is =
        let state : State = begun old now in
        let kept : Record = connected state key in
        let room : Option State = stored state key kept in
        let made : State → Outcome = tracked state key kept (record { number = state.events; slot = slot }) in
        either (TellsSlot old (Track now key) slot) made room (Full, state) (always (λ new. TellsSlot old (Track now key) slot (made new)) room (λ new. (refl, below-from old.spec.max_refs (length old.tickets) is))) tt

pub slot_told : (old : State) (event : Event) (slot : ℕ) → TellsSlot old event slot (after old event slot)
slot_told old (Get now key) slot = tells-none old (Get now key) slot (get (begun old now) key) (get-none (begun old now) key)
slot_told old (Track now key) slot = track-tells old now key slot
slot_told old (Look now ticket) slot = tells-none old (Look now ticket) slot (look (begun old now) ticket) (look-none (begun old now) ticket)
slot_told old (ListRows now choice) slot = tells-none old (ListRows now choice) slot (list (begun old now) choice) (list-none (begun old now) choice)
slot_told old (Count now ticket act) slot = tells-none old (Count now ticket act) slot (count (begun old now) ticket act) (count-plain (begun old now) ticket act).0
slot_told old (Release now ticket) slot = tells-none old (Release now ticket) slot (release (begun old now) ticket) (release-plain (begun old now) ticket).0
slot_told old (Put now key pairs) slot = tells-none old (Put now key pairs) slot (put (begun old now) key pairs) (put-plain (begun old now) key pairs).0
slot_told old (Clear now key) slot = tells-none old (Clear now key) slot (clear (begun old now) key) (clear-plain (begun old now) key).0
slot_told old (ClearWhere now choice) slot = tells-none old (ClearWhere now choice) slot (clear_where (begun old now) choice) (clear_where-plain (begun old now) choice).0
slot_told old (Expire now) slot = tt

-- ---- a step, from its outcome

-- where the reply tells no slot, it doesn't matter which was given
track-any : (state : State) (key : Key) (slot other : ℕ) (reply : Reply) (new : State) → track state key slot ≡ (reply, new) → slot_of reply ≡ None → track state key other ≡ (reply, new)
track-any state key slot other reply new is none = by-refs (nat_le state.spec.max_refs (length state.tickets)) is
  where
    by-room : (room : Option State) → option_map_or {U = Outcome} (tracked state key (connected state key) (record { number = state.events; slot = slot })) room (Full, state) ≡ (reply, new)
        → option_map_or {U = Outcome} (tracked state key (connected state key) (record { number = state.events; slot = other })) room (Full, state) ≡ (reply, new)
    by-room None is = is
    by-room (Some roomy) is = let told : Some slot ≡ None = ap (λ (o : Outcome). slot_of o.0) is ∙ none in cc

    by-refs : (full : Bool) → cond {A = Outcome} full (NoRefs, state) (tracked-with state key slot) ≡ (reply, new) → cond {A = Outcome} full (NoRefs, state) (tracked-with state key other) ≡ (reply, new)
    by-refs true is = is
    by-refs false is = by-room (stored state key (connected state key)) is

any_slot : (old : State) (event : Event) (slot other : ℕ) (reply : Reply) (new : State) → after old event slot ≡ (reply, new) → slot_of reply ≡ None → after old event other ≡ (reply, new)
any_slot old (Track now key) slot other reply new is none = track-any (begun old now) key slot other reply new is none
any_slot old (Get now key) slot other reply new is none = is
any_slot old (Look now ticket) slot other reply new is none = is
any_slot old (Count now ticket act) slot other reply new is none = is
any_slot old (Release now ticket) slot other reply new is none = is
any_slot old (Put now key pairs) slot other reply new is none = is
any_slot old (Clear now key) slot other reply new is none = is
any_slot old (ClearWhere now choice) slot other reply new is none = is
any_slot old (ListRows now choice) slot other reply new is none = is
any_slot old (Expire now) slot other reply new is none = is

-- what is done with a slot is a step, if a slot that is told is free
pub step_from : (old : State) (event : Event) (slot : ℕ) (reply : Reply) (new : State) → is_out old event ≡ true → after old event slot ≡ (reply, new)
    → IfSome (slot_of reply) (λ told. is_free_slot old told ≡ true) → Step old event reply new
step_from old event slot reply new out is can = record { out = out; gives = gives (slot_of reply) refl; free = free (slot_of reply) can }
  where
    gives : (told : Option ℕ) → slot_of reply ≡ told → after old event (unwrap_or told 0) ≡ (reply, new)
    gives None none = any_slot old event slot 0 reply new is none
    gives (Some told) some =
        let tells : IfSome (slot_of reply) (λ told. (told ≡ slot) × MayTrack old event) = subst (λ (o : Outcome). TellsSlot old event slot o) is (slot_told old event slot) in
        let same : (told ≡ slot) × MayTrack old event = subst (λ o. IfSome o (λ told. (told ≡ slot) × MayTrack old event)) some tells in
        subst (λ s. after old event s ≡ (reply, new)) (sym same.0) is

    free : (told : Option ℕ) → IfSome told (λ told. is_free_slot old told ≡ true) → option_map_or (is_free_slot old) told true ≡ true
    free None can = refl
    free (Some told) can = can

-- it is, where a free slot was given
pub step_with_free : (old : State) (event : Event) (slot : ℕ) (reply : Reply) (new : State) → is_out old event ≡ true → after old event slot ≡ (reply, new)
    → (MayTrack old event → is_free_slot old slot ≡ true) → Step old event reply new
step_with_free old event slot reply new out is free =
    step_from old event slot reply new out is (given (slot_of reply) (subst (λ (o : Outcome). TellsSlot old event slot o) is (slot_told old event slot)))
  where
    given : (told : Option ℕ) → IfSome told (λ told. (told ≡ slot) × MayTrack old event) → IfSome told (λ told. is_free_slot old told ≡ true)
    given None tells = tt
    given (Some told) tells = subst (λ s. is_free_slot old s ≡ true) (sym tells.0) (free tells.1)

-- it is, where the slot is that of a stored call which can be made again
pub step_redone : (old : State) (call : Stored) (reply : Reply) (new : State) → is_out old call.event ≡ true → redone old call ≡ (reply, new) → CanRedo old call → Step old call.event reply new
step_redone old call reply new out is can =
    step_from old call.event (unwrap_or call.slot 0) reply new out is (given (slot_of reply) (subst (λ (o : Outcome). IfSome (slot_of o.0) (λ slot. (call.slot ≡ Some slot) × (is_free_slot old slot ≡ true))) is can))
  where
    given : (told : Option ℕ) → IfSome told (λ slot. (call.slot ≡ Some slot) × (is_free_slot old slot ≡ true)) → IfSome told (λ told. is_free_slot old told ≡ true)
    given None named = tt
    given (Some told) named = named.1
