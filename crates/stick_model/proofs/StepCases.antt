-- What a step comes to, case by case.
use Rattle.std.proofs.Common.{◌≡◌, ℕ, ◌+◌, refl, subst, List, [], ◌∷◌, Bool, true, false, cond, not, nat_le, length, Option, Some, None, is_some, unwrap_or}
use Rattle.std.specs.Option.{option_map, option_map_or}
use Rattle.stick_model.specs.Key.{Key}
use Rattle.stick_model.specs.State.{State, is_tracked, key_of, record_at}
use Rattle.stick_model.specs.Room.{stored_in}
use Rattle.stick_model.specs.Filters.{not_stored}
use Rattle.stored_data.specs.Data.{is_settable}
use Rattle.stored_data.specs.Fields.{is_field}
use Rattle.stored_data.specs.declared.stored_set.Column.{Column}
use Rattle.stored_data.specs.declared.act.Act.{Act}
use Rattle.stick_model.specs.Step.{Outcome, Step, begun, after, get, tracked, connected, put_allowed, put_fault, written, without_record, cleared, counted_at, released_at, listed, slot_of}
use Rattle.stick_model.specs.Limits.{moment_of}
use Rattle.stick_model.specs.declared.rows.Ticket.{Ticket}
use Rattle.stick_model.specs.declared.rows.Record.{Record}
use Rattle.stick_model.specs.declared.rows.Cell.{Cell}
use Rattle.stick_model.specs.declared.filters.Filter.{Filter}
use Rattle.stick_model.specs.declared.events.Event.{Event}
use Rattle.stick_model.specs.declared.events.Event.TheVariants.{Get, Track, Look, Count, Release, Put, Clear, ClearWhere, List as ListRows, Expire}
use Rattle.stick_model.specs.declared.replies.Reply.{Reply}
use Rattle.stick_model.specs.declared.replies.Reply.TheVariants.{Absent, Row as ARow, NoRefs, Full, Tracked, Released, NotSettable, NotStored, Written, InUse, Removed}

-- a reply that gives no ticket and takes none
abbrev pub IsQuiet : Reply → Type 0
IsQuiet (Tracked ticket row) = ⊥
IsQuiet Released = ⊥
IsQuiet _ = Unit {0}

-- a count or a release that does nothing is of a ticket that isn't out
abbrev pub IsIdle : State → Event → Type 0
IsIdle old (Count now ticket act) = key_of ticket old.tickets ≡ None
IsIdle old (Release now ticket) = key_of ticket old.tickets ≡ None
IsIdle old _ = Unit {0}

-- an event either changes nothing but the clock and the count, or does one of six things
pub data Happens (old : State) (slot : ℕ) : Event → Reply → State → Type 0 where
  idles : (event : Event) (reply : Reply) → IsQuiet reply → IsIdle old event → Happens old slot event reply (begun old (moment_of event))
  tracks : (now : ℕ) (key : Key) (records : List (Key × Record))
      → stored_in old.spec old.tickets (begun old now).records key (connected (begun old now) key) ≡ Some records
      → Happens old slot (Track now key) (tracked (begun old now) key (connected (begun old now) key) (record { number = old.events + 1; slot = slot }) (record (begun old now) { records = records })).0 (tracked (begun old now) key (connected (begun old now) key) (record { number = old.events + 1; slot = slot }) (record (begun old now) { records = records })).1
  counts : (now : ℕ) (ticket : Ticket) (act : Act) (key : Key) → key_of ticket old.tickets ≡ Some key
      → Happens old slot (Count now ticket act) (counted_at (begun old now) key act).0 (counted_at (begun old now) key act).1
  releases : (now : ℕ) (ticket : Ticket) (key : Key) → key_of ticket old.tickets ≡ Some key
      → Happens old slot (Release now ticket) Released (released_at (begun old now) ticket key)
  writes : (now : ℕ) (key : Key) (pairs : List Cell) (created : Bool) (records : List (Key × Record))
      → stored_in old.spec old.tickets (begun old now).records key (written (begun old now) key pairs) ≡ Some records
      → Happens old slot (Put now key pairs) (Written created) (record (begun old now) { records = records })
  removes : (now : ℕ) (key : Key) → is_tracked key old.tickets ≡ false
      → Happens old slot (Clear now key) Removed (without_record (begun old now) key)
  clears : (now : ℕ) (choice : Filter) → Happens old slot (ClearWhere now choice) (cleared (begun old now) choice).0 (cleared (begun old now) choice).1

-- ---- an outcome, whichever way it came
module _ (Q : Reply → State → Type 0) where
  pub of_option : {X : Type 0} (f : X → Outcome) (o : Option X) (d : Outcome) → ((x : X) → o ≡ Some x → Q (f x).0 (f x).1) → (o ≡ None → Q d.0 d.1) → Q (option_map_or f o d).0 (option_map_or f o d).1
  of_option f None d h k = k refl
  of_option f (Some x) d h k = h x refl

  pub of_reply : {X : Type 0} (f : X → Reply) (o : Option X) (d : Reply) (state : State) → ((x : X) → Q (f x) state) → Q d state → Q (option_map_or f o d) state
  of_reply f None d state h k = k
  of_reply f (Some x) d state h k = h x

  pub of_mapped : {X : Type 0} (g : X → State) (f : State → Outcome) (o : Option X) (d : Outcome) → ((x : X) → o ≡ Some x → Q (f (g x)).0 (f (g x)).1) → Q d.0 d.1 → Q (option_map_or f (option_map g o) d).0 (option_map_or f (option_map g o) d).1
  of_mapped g f None d h k = k
  of_mapped g f (Some x) d h k = h x refl

  pub of_test : (b : Bool) (x y : Outcome) → (b ≡ true → Q x.0 x.1) → (b ≡ false → Q y.0 y.1) → Q (cond b x y).0 (cond b x y).1
  of_test true x y h k = h refl
  of_test false x y h k = k refl

-- a put's fault gives no ticket and takes none
fault-quiet : (columns : List Column) (pairs : List Cell) (reply : Reply) → put_fault columns pairs ≡ Some reply → IsQuiet reply
fault-quiet columns [] reply h = cc
fault-quiet columns (pair ∷ pairs) reply h =
    elim (not (is_settable pair.field.datum)) as (λ b. cond b (Some (NotSettable pair.field)) (cond (not (is_field columns pair.field)) (Some (NotStored pair.field)) (put_fault columns pairs)) ≡ Some reply → IsQuiet reply) [
      | true ↦ λ h. let e : NotSettable pair.field ≡ reply = cc in subst IsQuiet e tt
      | false ↦ λ h. elim (not (is_field columns pair.field)) as (λ b. cond b (Some (NotStored pair.field)) (put_fault columns pairs) ≡ Some reply → IsQuiet reply) [
        | true ↦ λ h. let e : NotStored pair.field ≡ reply = cc in subst IsQuiet e tt
        | false ↦ λ h. fault-quiet columns pairs reply h
      ] h
    ] h

got : (old : State) (slot : ℕ) (event : Event) (key : Key) → IsIdle old event → Happens old slot event (get (begun old (moment_of event)) key).0 (begun old (moment_of event))
got old slot event key idle = of_reply (Happens old slot event) (λ found. ARow _) (record_at key (begun old (moment_of event)).records) Absent (begun old (moment_of event)) (λ found. idles event _ tt idle) (idles event Absent tt idle)

pub happens : (old : State) (event : Event) (slot : ℕ) → Happens old slot event (after old event slot).0 (after old event slot).1
happens old (Get now key) slot = got old slot (Get now key) key tt
happens old (Track now key) slot =
    let state : State = begun old now in
    let kept : Record = connected state key in
    let event : Event = Track now key in
    let Q : Reply → State → Type 0 = Happens old slot event in
    of_test Q (nat_le state.spec.max_refs (length state.tickets)) (NoRefs, state) _ (λ _. idles event NoRefs tt tt)
    (λ _. of_mapped Q (λ rs. record state { records = rs }) (tracked state key kept (record { number = state.events; slot = slot })) (stored_in state.spec state.tickets state.records key kept) (Full, state) (λ rs is. tracks now key rs is) (idles event Full tt tt))
happens old (Look now ticket) slot =
    of_option (Happens old slot (Look now ticket)) (get (begun old now)) (key_of ticket old.tickets) (Absent, begun old now) (λ key _. got old slot (Look now ticket) key tt) (λ _. idles (Look now ticket) Absent tt tt)
happens old (Count now ticket act) slot =
    of_option (Happens old slot (Count now ticket act)) (λ key. counted_at (begun old now) key act) (key_of ticket old.tickets) (Absent, begun old now) (λ key is. counts now ticket act key is) (λ none. idles (Count now ticket act) Absent tt none)
happens old (Release now ticket) slot =
    of_option (Happens old slot (Release now ticket)) (λ key. let o : Outcome = (Released, released_at (begun old now) ticket key) in o) (key_of ticket old.tickets) (Absent, begun old now) (λ key is. releases now ticket key is) (λ none. idles (Release now ticket) Absent tt none)
happens old (Put now key pairs) slot =
    let state : State = begun old now in
    let event : Event = Put now key pairs in
    let Q : Reply → State → Type 0 = Happens old slot event in
    of_option Q (λ fault. let o : Outcome = (fault, state) in o) (put_fault state.spec.columns pairs) (put_allowed state key pairs) (λ fault is. idles event fault (fault-quiet state.spec.columns pairs fault is) tt)
    (λ _. of_mapped Q (λ rs. record state { records = rs }) (λ new. let o : Outcome = (Written (not (is_some (record_at key state.records))), new) in o) (stored_in state.spec state.tickets state.records key (written state key pairs)) (Full, state) (λ rs is. writes now key pairs _ rs is) (idles event Full tt tt))
happens old (Clear now key) slot =
    let state : State = begun old now in
    let event : Event = Clear now key in
    let Q : Reply → State → Type 0 = Happens old slot event in
    of_test Q (not (is_some (record_at key state.records))) (Absent, state) _ (λ _. idles event Absent tt tt) (λ _. of_test Q (is_tracked key old.tickets) (InUse, state) (Removed, without_record state key) (λ _. idles event InUse tt tt) (λ free. removes now key free))
happens old (ClearWhere now choice) slot =
    of_option (Happens old slot (ClearWhere now choice)) (λ field. let o : Outcome = (NotStored field, begun old now) in o) (not_stored old.spec.columns choice) (cleared (begun old now) choice) (λ field _. idles (ClearWhere now choice) (NotStored field) tt tt) (λ _. clears now choice)
happens old (ListRows now choice) slot =
    of_reply (Happens old slot (ListRows now choice)) NotStored (not_stored old.spec.columns choice) (listed (begun old now) choice) (begun old now) (λ field. idles (ListRows now choice) (NotStored field) tt tt) (idles (ListRows now choice) (listed (begun old now) choice) tt tt)
happens old (Expire now) slot = idles (Expire now) _ tt tt

pub happened : (old : State) (event : Event) (reply : Reply) (new : State) → Step old event reply new → Happens old (unwrap_or (slot_of reply) 0) event reply new
happened old event reply new step = subst (λ (o : Outcome). Happens old (unwrap_or (slot_of reply) 0) event o.0 o.1) step.gives (happens old event (unwrap_or (slot_of reply) 0))
