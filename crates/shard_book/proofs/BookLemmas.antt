-- A call more keeps a book, and its record's places.
use Rattle.std.proofs.Common.{◌≡◌, ℕ, ◌+◌, ◌≤◌, ◌^◌, List, [], ◌∷◌, ◌++◌, length, Option, None, true, refl, sym, ap, ◌∙◌, subst, arith, rules}
use Rattle.std.proofs.lemmas.List.Elements.{All-push}
use Rattle.stick_model.specs.State.{State, empty_table}
use Rattle.stick_model.specs.Step.{Step, slot_of}
use Rattle.stick_model.specs.Legal.{IsLegal}
use Rattle.stick_model.specs.Limits.{IsTableSpec, IsTableEvent}
use Rattle.stick_model.specs.Refusals.{has_life, life_taken}
use Rattle.stick_model.specs.declared.specification.Spec.{Spec}
use Rattle.stick_model.specs.declared.events.Stored.{Stored}
use Rattle.stick_model.specs.declared.events.Event.{Event}
use Rattle.stick_model.specs.declared.replies.Reply.{Reply}
use Rattle.stick_model.specs.declared.replies.Reply.TheVariants.{Tracked, Released}
use Rattle.stick_model.proofs.StepLemmas.{step_places, given_by, taken_by}
use Rattle.stick_model.proofs.RunLemmas.{lasting_run_more, stored-from-lasting, stored_run_events, stored_run_spec}
use Rattle.stick_model.specs.Run.{StoredRun}
use Rattle.stick_model.proofs.LegalLemmas.{orderly-from_legal, step_legal, step_tickets-length, empty_legal}
use Rattle.stick_model.specs.declared.events.Event.TheVariants.{Get, Track, Look, Count, Release, Put, Clear, ClearWhere, List as ListRows, Expire}
use Rattle.stick_model.proofs.StepCases.{IsQuiet, Happens, idles, tracks, counts, releases, writes, removes, clears, happened}
use Rattle.shard_book.specs.RecordedState.{RecordedState}
use Rattle.shard_book.specs.Briefs.{IsToldSlot, MayTell, unanswered}
use Rattle.shard_book.specs.declared.recorded.Recorded.{Recorded}
use Rattle.shard_book.specs.BookState.{Extends, BookState, IsBook, HasPlaces, stored_of, recorded, opened, out_after}

pub stored_of-push : (calls : List Recorded) (call : Recorded) → stored_of (calls ++ call ∷ []) ≡ stored_of calls ++ call.stored ∷ []
stored_of-push [] call = refl
stored_of-push (first ∷ rest) call = ap (λ xs. first.stored ∷ xs) (stored_of-push rest call)

-- a list that is another with one item behind it
pub one_behind : {X : Type 0} (old middle new : List X) (x y : X) → new ≡ middle ++ x ∷ [] → middle ≡ old → x ≡ y → new ≡ old ++ y ∷ []
one_behind old middle new x y more stays same = more ∙ (λ k. stays k ++ same k ∷ [])

-- a call more
pub book_more : (base live : State) (calls : List Recorded) (seat : ℕ) (event : Event) (reply : Reply) (next : State)
    → IsBook (record { base = base; calls = calls; live = live }) → IsTableEvent event → has_life live event ≡ true → Step live event reply next
    → IsBook (record { base = base; calls = calls ++ recorded seat event reply ∷ []; live = next })
book_more base live calls seat event reply next book taken lives step =
    let call : Stored = record { event = event; slot = slot_of reply } in
    record {
      limits = book.limits;
      base_legal = book.base_legal;
      events = All-push (λ (c : Recorded). IsTableEvent c.stored.event) calls (recorded seat event reply) book.events taken;
      replies = book.replies ++ reply ∷ [];
      run = rw (stored_of-push calls (recorded seat event reply)) (lasting_run_more base (stored_of calls) book.replies live call reply next book.run refl lives step);
      live_legal = step_legal live event reply next book.live_legal taken lives step;
    }

-- the record with one call more, as the code leaves it: places are reserved, and the call is pushed
pub recorded_more : (base after live : State) (old reserved new : List Recorded) (call : Recorded) (seat : ℕ) (event : Event) (reply : Reply) (next : State)
    → after ≡ base → new ≡ reserved ++ call ∷ [] → reserved ≡ old → call ≡ recorded seat event reply
    → IsBook (record { base = base; calls = old; live = live }) → IsTableEvent event → has_life live event ≡ true → Step live event reply next
    → IsBook (record { base = after; calls = new; live = next })
recorded_more base after live old reserved new call seat event reply next same pushed stays is book taken lives step =
    let more : IsBook (record { base = base; calls = old ++ recorded seat event reply ∷ []; live = next }) = book_more base live old seat event reply next book taken lives step in
    let calls : new ≡ old ++ recorded seat event reply ∷ [] = one_behind old reserved new call (recorded seat event reply) pushed stays is in
    subst (λ (y : State × List Recorded). IsBook (record { base = y.0; calls = y.1; live = next })) (λ k. (sym same k, sym calls k)) more

-- the book has one call more
pub extended : (base after live : State) (old reserved new : List Recorded) (call : Recorded) (seat : ℕ) (event : Event) (reply : Reply) (next : State) (before : BookState)
    → record { base = base; calls = old; live = live } ≡ before → after ≡ base → new ≡ reserved ++ call ∷ [] → reserved ≡ old → call ≡ recorded seat event reply → Step live event reply next
    → Extends before seat event reply (record { base = after; calls = new; live = next })
extended base after live old reserved new call seat event reply next before was same pushed stays is step =
    subst (λ (b : BookState). Extends b seat event reply (record { base = after; calls = new; live = next })) was
    (record { step = step; calls = one_behind old reserved new call (recorded seat event reply) pushed stays is; base = same })

-- ---- how a call lies in the record

-- a call that was made before its reply was known, as it is recorded
pub recorded_so : (call result : RecordedState) (seat : ℕ) (event : Event) (reply : Reply) → call ≡ unanswered seat event → result ≡ recorded call.seat call.stored.event reply → result ≡ recorded seat event reply
recorded_so call result seat event reply made is = is ∙ ap (λ (c : RecordedState). recorded c.seat c.stored.event reply) made

none_told : (event : Event) (slot : Option ℕ) → slot ≡ None → IsToldSlot event slot
none_told (Track now key) slot none = tt
none_told (Get now key) slot none = none
none_told (Look now ticket) slot none = none
none_told (Count now ticket act) slot none = none
none_told (Release now ticket) slot none = none
none_told (Put now key pairs) slot none = none
none_told (Clear now key) slot none = none
none_told (ClearWhere now choice) slot none = none
none_told (ListRows now choice) slot none = none
none_told (Expire now) slot none = none

quiet_slot : (reply : Reply) → IsQuiet reply → slot_of reply ≡ None
quiet_slot (Tracked ticket row) quiet = absurd quiet
quiet_slot _ quiet = refl

-- only a track's reply tells a slot
slot_told : (old : State) (event : Event) (reply : Reply) (new : State) → Step old event reply new → IsToldSlot event (slot_of reply)
slot_told old event reply new step = told (happened old event reply new step)
  where
    told : {slot : ℕ} {event : Event} {reply : Reply} {new : State} → Happens old slot event reply new → IsToldSlot event (slot_of reply)
    told (idles event reply quiet idle) = none_told event (slot_of reply) (quiet_slot reply quiet)
    told (tracks now key records room) = tt
    told (counts now ticket act key out) = refl
    told (releases now ticket key out) = refl
    told (writes now key pairs created records room) = refl
    told (removes now key free) = refl
    told (clears now choice) = refl

pub tells_so : (call : RecordedState) (old : State) (seat : ℕ) (event : Event) (reply : Reply) (new : State) → call ≡ unanswered seat event → Step old event reply new → MayTell call (slot_of reply)
tells_so call old seat event reply new made step = subst (λ (c : RecordedState). MayTell c (slot_of reply)) (sym made) (slot_told old event reply new step)

out-counted : (reply : Reply) (before after : ℕ) → after + taken_by reply ≡ before + given_by reply → after ≡ out_after before reply
out-counted (Tracked ticket row) before after h = omega (arith, h)
out-counted Released before after h = omega (arith, h)
out-counted _ before after h = omega (arith, h)

held-before : (reply : Reply) (before after : ℕ) → after + taken_by reply ≡ before + given_by reply → reply ≡ Released → 1 ≤ before
held-before reply before after h is = let released : after + taken_by Released ≡ before + given_by Released = subst (λ r. after + taken_by r ≡ before + given_by r) is h in omega (arith, released)

-- a ticket that is given back was out
pub held : (live : State) (event : Event) (reply : Reply) (next : State) → IsLegal live → Step live event reply next → reply ≡ Released → 1 ≤ length live.tickets
held live event reply next legal step is = held-before reply (length live.tickets) (length next.tickets) (step_tickets-length live event reply next (orderly-from_legal live legal) step) is

-- with the places that an event takes, the record has its places after it
pub places-more : (live : State) (event : Event) (reply : Reply) (next : State) (used capacity : ℕ)
    → IsLegal live → Step live event reply next → used + length live.tickets + life_taken event ≤ capacity
    → HasPlaces next (used + 1) capacity (out_after (length live.tickets) reply)
places-more live event reply next used capacity legal step room =
    let tickets : length next.tickets + taken_by reply ≡ length live.tickets + given_by reply = step_tickets-length live event reply next (orderly-from_legal live legal) step in
    let counted : length next.tickets ≡ out_after (length live.tickets) reply = out-counted reply (length live.tickets) (length next.tickets) tickets in
    let places : 1 + given_by reply ≤ life_taken event + taken_by reply = step_places live event reply next step in
    record {
      counted = sym counted;
      room = omega (arith, counted, tickets, places, room);
    }

-- the same, with what the code counts: the tickets that are out, and the record's length and capacity
pub places-recorded : (live : State) (event : Event) (reply : Reply) (next : State) (used capacity out_before new_used new_capacity out_now : ℕ)
    → IsLegal live → Step live event reply next → out_before ≡ length live.tickets → used + out_before + life_taken event ≤ capacity
    → new_used ≡ used + 1 → new_capacity ≡ capacity → out_now ≡ out_after out_before reply → HasPlaces next new_used new_capacity out_now
places-recorded live event reply next used capacity out_before new_used new_capacity out_now legal step counted place more same now =
    let places : HasPlaces next (used + 1) capacity (out_after (length live.tickets) reply) = places-more live event reply next used capacity legal step (omega arith) in
    let out : out_now ≡ out_after (length live.tickets) reply = now ∙ ap (λ n. out_after n reply) counted in
    record { counted = out ∙ places.counted; room = omega (arith, out, places.room) }

-- the places that an event takes are one at least, or it gives a ticket back, whose release has one
pub place_left : (live : State) (event : Event) (reply : Reply) (next : State) (used capacity out : ℕ)
    → IsLegal live → Step live event reply next → out ≡ length live.tickets → used + out + life_taken event ≤ capacity → used + 1 ≤ capacity
place_left live event reply next used capacity out legal step counted place =
    let places : HasPlaces next (used + 1) capacity (out_after (length live.tickets) reply) = places-more live event reply next used capacity legal step (omega arith) in
    omega (arith, places.room)

-- a ticket that is given back is counted
pub held_counted : (live : State) (event : Event) (reply : Reply) (next : State) (out : ℕ) → IsLegal live → Step live event reply next → out ≡ length live.tickets → reply ≡ Released → 1 ≤ out
held_counted live event reply next out legal step counted is = let some : 1 ≤ length live.tickets = held live event reply next legal step is in omega arith

-- a book's run, as one of stored calls
pub stored_run : (book : BookState) (is : IsBook book) → StoredRun book.base (stored_of book.calls) is.replies book.live
stored_run book is = stored-from-lasting book.base (stored_of book.calls) is.replies book.live is.run

-- a book is of one specification
pub live_spec : (book : BookState) → IsBook book → book.live.spec ≡ book.base.spec
live_spec book is = stored_run_spec book.base (stored_of book.calls) is.replies book.live (stored_run book is)

pub live_limits : (book : BookState) → IsBook book → IsTableSpec book.live.spec
live_limits book is = subst IsTableSpec (sym (live_spec book is)) is.limits

-- ---- how many events there were

pub length-stored_of : (calls : List Recorded) → length (stored_of calls) ≡ length calls
length-stored_of [] = refl
length-stored_of (first ∷ rest) = let less : length (stored_of rest) ≡ length rest = length-stored_of rest in omega arith

pub live_events : (book : BookState) → IsBook book → book.live.events ≡ book.base.events + length book.calls
live_events book is =
    let run : book.live.events ≡ book.base.events + length (stored_of book.calls) = stored_run_events book.base (stored_of book.calls) is.replies book.live (stored_run book is) in
    let count : length (stored_of book.calls) ≡ length book.calls = length-stored_of book.calls in
    omega arith

pub live_events-limit : (book : BookState) → IsBook book → book.live.events ≤ 2 ^ 62
live_events-limit book is =
    let limits : IsTableSpec book.live.spec = live_limits book is in
    let within : book.live.events + length book.live.tickets ≤ book.live.spec.life = is.live_legal.within_life in
    let life : book.live.spec.life ≤ 2 ^ 62 = limits.life in
    omega arith

-- ---- the book of an empty table

pub opened_is_book : (spec : Spec) → IsTableSpec spec → IsBook (opened spec)
opened_is_book spec limits = record { limits = limits; events = search rules; base_legal = empty_legal spec; replies = []; run = refl; live_legal = empty_legal spec }

pub empty_is_book : (spec : Spec) (base live : State) (calls : List Recorded) → IsTableSpec spec → base ≡ empty_table spec → calls ≡ [] → live ≡ empty_table spec → IsBook (record { base = base; calls = calls; live = live })
empty_is_book spec base live calls limits base_is calls_are live_is = rw (base_is, calls_are, live_is) (opened_is_book spec limits)

pub empty_has_places : (spec : Spec) (live : State) (used capacity : ℕ) → live ≡ empty_table spec → used ≤ capacity → HasPlaces live used capacity 0
empty_has_places spec live used capacity live_is within = rw live_is (let places : HasPlaces (empty_table spec) used capacity 0 = record { counted = refl; room = omega arith } in places)
