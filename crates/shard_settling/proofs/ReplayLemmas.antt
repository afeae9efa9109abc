-- Calls of a record that are made again, one by one.
use Rattle.std.proofs.Common.{◌≡◌, ℕ, ◌+◌, ◌<◌, List, [], ◌∷◌, ◌++◌, length, get_or, take, drop, sym, ap, ◌∙◌, subst}
use Rattle.std.proofs.lemmas.List.{take_more, at_drop_more}
use Rattle.stick_model.specs.State.{State, empty_table}
use Rattle.stick_model.specs.Step.{Step, Outcome, slot_of}
use Rattle.stick_model.specs.Run.{StoredRun, CanRedo, redone}
use Rattle.stick_model.specs.declared.events.Stored.{Stored}
use Rattle.stick_model.specs.declared.replies.Reply.{Reply}
use Rattle.stick_model.proofs.StepLemmas.{step_determined}
use Rattle.stick_model.proofs.RunLemmas.{can_redo, redone_is, stored_run_more}
use Rattle.shard_book.specs.declared.recorded.Recorded.{Recorded}
use Rattle.shard_book.specs.BookState.{BookState, IsBook, stored_of}
use Rattle.shard_book.proofs.BookLemmas.{stored_of-push, stored_run}

-- some replies lead from here to the end
abbrev pub LeadsOn : State → List Recorded → State → Type 0
LeadsOn middle calls live = (replies : List Reply) × StoredRun middle (stored_of calls) replies live

-- the first of the calls that are left
record First (middle : State) (call : Stored) (later : List Recorded) (live : State) : Type 0 where
  reply : Reply
  next : State
  slot : call.slot ≡ slot_of reply
  step : Step middle call.event reply next
  rest : LeadsOn next later live

first_of : (middle : State) (call : Recorded) (later : List Recorded) (live : State) (replies : List Reply) → StoredRun middle (stored_of (call ∷ later)) replies live → First middle call.stored later live
first_of middle call later live [] run = absurd run
first_of middle call later live (r ∷ rs) run = record { reply = r; next = run.0; slot = run.1; step = run.2; rest = (rs, run.3) }

left : (calls : List Recorded) (i : ℕ) (call : Recorded) → i < length calls → call ≡ get_or calls i call → drop i calls ≡ call ∷ drop (i + 1) calls
left calls i call below is = at_drop_more (λ cs. cs) calls i call below ∙ ap (λ (c : Recorded). c ∷ drop (i + 1) calls) (sym is)

next_of : (calls : List Recorded) (i : ℕ) (call : Recorded) (middle live : State) → i < length calls → call ≡ get_or calls i call → LeadsOn middle (drop i calls) live → First middle call.stored (drop (i + 1) calls) live
next_of calls i call middle live below is on =
    first_of middle call (drop (i + 1) calls) live on.0 (subst (λ (cs : List Recorded). StoredRun middle (stored_of cs) on.0 live) (left calls i call below is) on.1)

-- one call more is made
pub made-more : (base live : State) (calls : List Recorded) (i : ℕ) (call : Recorded) (done : List Reply) (middle : State) (reply : Reply) (next : State) → i < length calls → call ≡ get_or calls i call
    → StoredRun base (stored_of (take i calls)) done middle → call.stored.slot ≡ slot_of reply → Step middle call.stored.event reply next
    → StoredRun base (stored_of (take (i + 1) calls)) (done ++ reply ∷ []) next
made-more base live calls i call done middle reply next below is run slot step =
    let split : take (i + 1) calls ≡ take i calls ++ call ∷ [] = take_more calls i call below ∙ ap (λ (c : Recorded). take i calls ++ c ∷ []) (sym is) in
    let stored : stored_of (take (i + 1) calls) ≡ stored_of (take i calls) ++ call.stored ∷ [] = ap stored_of split ∙ stored_of-push (take i calls) call in
    subst (λ (cs : List Stored). StoredRun base cs (done ++ reply ∷ []) next) (sym stored) (stored_run_more base (stored_of (take i calls)) done middle call.stored reply next run slot step)

-- and the others lead on to the end
pub leads-more : (live : State) (calls : List Recorded) (i : ℕ) (call : Recorded) (middle : State) (reply : Reply) (next : State) → i < length calls → call ≡ get_or calls i call
    → LeadsOn middle (drop i calls) live → call.stored.slot ≡ slot_of reply → Step middle call.stored.event reply next → LeadsOn next (drop (i + 1) calls) live
leads-more live calls i call middle reply next below is on slot step =
    let first = next_of calls i call middle live below is on in
    let same = step_determined middle call.stored.event first.reply reply first.next next first.step step (sym first.slot ∙ slot) in
    subst (λ (s : State). LeadsOn s (drop (i + 1) calls) live) same.1 first.rest

-- a plain table can make the next call, and answers the slot that is recorded
pub can_redo-next : (live : State) (calls : List Recorded) (i : ℕ) (call : Recorded) (middle : State) → i < length calls → call ≡ get_or calls i call → LeadsOn middle (drop i calls) live → CanRedo middle call.stored
can_redo-next live calls i call middle below is on =
    let first = next_of calls i call middle live below is on in
    can_redo middle call.stored first.reply first.next first.step first.slot

pub redo-slot : (live : State) (calls : List Recorded) (i : ℕ) (call : Recorded) (middle : State) (reply : Reply) (next : State) → i < length calls → call ≡ get_or calls i call
    → LeadsOn middle (drop i calls) live → redone middle call.stored ≡ (reply, next) → call.stored.slot ≡ slot_of reply
redo-slot live calls i call middle reply next below is on one =
    let first = next_of calls i call middle live below is on in
    first.slot ∙ ap (λ (o : Outcome). slot_of o.0) (sym (redone_is middle call.stored first.reply first.next first.step first.slot) ∙ one)

-- a record leads from the empty table with which it begins to the live one
pub leads-begin : (book : BookState) (table : State) → IsBook book → book.base ≡ empty_table book.base.spec → table ≡ empty_table book.base.spec → (table ≡ book.base) × LeadsOn table book.calls book.live
leads-begin book table is empty begins =
    let same : table ≡ book.base = begins ∙ sym empty in
    (same, subst (λ (s : State). LeadsOn s book.calls book.live) (sym same) (is.replies, stored_run book is))
