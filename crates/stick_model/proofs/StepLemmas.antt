-- What a step leaves of the events, the tickets and their numbers.
use Rattle.std.proofs.Common.{◌≡◌, ℕ, ◌+◌, ◌≤◌, max, unwrap_or, IsTrue, length-append, ◌∙◌, refl, sym, ap, subst, arith, List, [], ◌∷◌, ◌++◌, Bool, true, false, cond, not, ◌&&◌, nat_eq, filter, count_by, length, Some, is_some, ◌⊎◌, inl, inr}
use Rattle.std.specs.List.{AllByRecursion}
use Rattle.std.proofs.lemmas.List.Sums.{sum_by-append, sum_by-cons}
use Rattle.stick_model.specs.Key.{Key}
use Rattle.stick_model.specs.State.{State, same_ticket, key_of}
use Rattle.stick_model.specs.Limits.{moment_of}
use Rattle.stick_model.specs.Refusals.{life_taken}
use Rattle.std.proofs.lemmas.Bool.{false≢true}
use Rattle.stick_model.proofs.EntryLemmas.{length-filter-le, lookup-filter}
use Rattle.stick_model.proofs.TestLemmas.{and-left, and-right}
use Rattle.std.proofs.lemmas.Bool.Decides.{nat_tests}
use Rattle.std.specs.Option.{option_map_or}
use Rattle.stick_model.specs.Laws.{tickets_told, TicketsLaw}
use Rattle.stick_model.proofs.StepCases.{IsQuiet, IsIdle, Happens, idles, tracks, counts, releases, writes, removes, clears, happened}
use Rattle.stick_model.specs.Step.{Outcome, Step, slot_of, is_out, is_free_slot, after}
use Rattle.stick_model.specs.Legal.{number_in}
use Rattle.stick_model.specs.declared.rows.Ticket.{Ticket}
use Rattle.stick_model.specs.declared.events.Event.{Event}
use Rattle.stick_model.specs.declared.events.Event.TheVariants.{Track, Count, Release}
use Rattle.stick_model.specs.declared.replies.Reply.{Reply}
use Rattle.stick_model.specs.declared.replies.Reply.TheVariants.{Tracked, Released}

-- ---- the tickets after an event: as they were, or one more, or fewer
abbrev pub TicketsChange : List (Ticket × Key) → ℕ → List (Ticket × Key) → Type 0
TicketsChange old number new =
    (new ≡ old) ⊎ (((slot : ℕ) × (key : Key) × (new ≡ old ++ (record { number = number; slot = slot }, key) ∷ [])) ⊎ ((q : Ticket × Key → Bool) × (new ≡ filter q old)))

pub step_changes : (old : State) (event : Event) (reply : Reply) (new : State) → Step old event reply new → TicketsChange old.tickets (old.events + 1) new.tickets
step_changes old event reply new step = change (happened old event reply new step)
  where
    change : {slot : ℕ} {event : Event} {reply : Reply} {new : State} → Happens old slot event reply new → TicketsChange old.tickets (old.events + 1) new.tickets
    change (idles event reply quiet idle) = inl refl
    change {slot} (tracks now key records room) = inr (inl (slot, key, refl))
    change (counts now ticket act key out) = inl refl
    change (releases now ticket key out) = inr (inr ((λ held. not (same_ticket ticket held.0)), refl))
    change (writes now key pairs created records room) = inl refl
    change (removes now key free) = inl refl
    change (clears now choice) = inl refl

-- ---- counts and numbers over such a change
module _ {X : Type 0} (p : X → Bool) where
  pub one_of : X → ℕ
  one_of x = cond (p x) 1 0

  pub count-filter : (q : X → Bool) (xs : List X) → count_by p (filter q xs) ≤ count_by p xs
  count-filter q [] = omega arith
  count-filter q (x ∷ xs) =
      elim (q x) as (λ b. count_by p (cond b (x ∷ filter q xs) (filter q xs)) ≤ count_by p (x ∷ xs)) [
        | true ↦ omega (arith, count-filter q xs, sum_by-cons (λ y. cond (p y) 1 0) x (filter q xs), sum_by-cons (λ y. cond (p y) 1 0) x xs)
        | false ↦ omega (arith, count-filter q xs, sum_by-cons (λ y. cond (p y) 1 0) x xs)
      ]

  pub count-more : (xs : List X) (x : X) → p x ≡ false → count_by p (xs ++ x ∷ []) ≡ count_by p xs
  count-more xs x fails =
      let f : X → ℕ = λ y. cond (p y) 1 0 in
      let zero : f x ≡ 0 = ap (λ b. cond b 1 0) fails in
      omega (arith, sum_by-append f xs (x ∷ []), sum_by-cons f x [], zero)

pub AllByRecursion-filter : {X : Type 0} (P : X → Type 0) (q : X → Bool) (xs : List X) → AllByRecursion P xs → AllByRecursion P (filter q xs)
AllByRecursion-filter P q [] h = tt
AllByRecursion-filter P q (x ∷ xs) h =
    elim (q x) as (λ b. AllByRecursion P (cond b (x ∷ filter q xs) (filter q xs))) [ true ↦ (h.0, AllByRecursion-filter P q xs h.1) | false ↦ AllByRecursion-filter P q xs h.1 ]

pub AllByRecursion-push : {X : Type 0} (P : X → Type 0) (xs : List X) (x : X) → AllByRecursion P xs → P x → AllByRecursion P (xs ++ x ∷ [])
AllByRecursion-push P [] x h k = (k, tt)
AllByRecursion-push P (y ∷ xs) x h k = (h.0, AllByRecursion-push P xs x h.1 k)

pub AllByRecursion-implies : {X : Type 0} (P R : X → Type 0) → ((x : X) → P x → R x) → (xs : List X) → AllByRecursion P xs → AllByRecursion R xs
AllByRecursion-implies P R f [] h = tt
AllByRecursion-implies P R f (x ∷ xs) h = (f x h.0, AllByRecursion-implies P R f xs h.1)

abbrev pub NumbersUpTo : ℕ → List (Ticket × Key) → Type 0
NumbersUpTo n tickets = AllByRecursion (λ held. number_in held ≤ n) tickets

pub numbers-changed : (old new : List (Ticket × Key)) (n : ℕ) → NumbersUpTo n old → TicketsChange old (n + 1) new → NumbersUpTo (n + 1) new
numbers-changed old new n h change =
    let more : NumbersUpTo (n + 1) old = AllByRecursion-implies (λ held. number_in held ≤ n) (λ held. number_in held ≤ n + 1) (λ held le. omega arith) old h in
    elim change [
      | inl same ↦ subst (NumbersUpTo (n + 1)) (sym same) more
      | inr other ↦ elim other [
        | inl one ↦ subst (NumbersUpTo (n + 1)) (sym one.2) (AllByRecursion-push (λ held. number_in held ≤ n + 1) old (record { number = n + 1; slot = one.0 }, one.1) more (omega arith))
        | inr fewer ↦ subst (NumbersUpTo (n + 1)) (sym fewer.1) (AllByRecursion-filter (λ held. number_in held ≤ n + 1) fewer.0 old more)
      ]
    ]

-- ---- steps
-- the same reply and state where the same slot is told
pub step_determined : (old : State) (event : Event) (reply other : Reply) (new next : State) → Step old event reply new → Step old event other next → slot_of reply ≡ slot_of other → (reply ≡ other) × (new ≡ next)
step_determined old event reply other new next a b slots =
    let both : ◌≡◌ {A = Outcome} (reply, new) (other, next) = sym a.gives ∙ ap (λ o. after old event (unwrap_or o 0)) slots ∙ b.gives in
    (ap (λ (o : Outcome). o.0) both, ap (λ (o : Outcome). o.1) both)

-- one more event is counted
pub step_events : (old : State) (event : Event) (reply : Reply) (new : State) → Step old event reply new → new.events ≡ old.events + 1
step_events old event reply new step = counted (happened old event reply new step)
  where
    counted : {slot : ℕ} {event : Event} {reply : Reply} {new : State} → Happens old slot event reply new → new.events ≡ old.events + 1
    counted (idles event reply quiet idle) = refl
    counted (tracks now key records room) = refl
    counted (counts now ticket act key out) = refl
    counted (releases now ticket key out) = refl
    counted (writes now key pairs created records room) = refl
    counted (removes now key free) = refl
    counted (clears now choice) = refl

-- the specification stays
pub step_spec : (old : State) (event : Event) (reply : Reply) (new : State) → Step old event reply new → new.spec ≡ old.spec
step_spec old event reply new step = kept (happened old event reply new step)
  where
    kept : {slot : ℕ} {event : Event} {reply : Reply} {new : State} → Happens old slot event reply new → new.spec ≡ old.spec
    kept (idles event reply quiet idle) = refl
    kept (tracks now key records room) = refl
    kept (counts now ticket act key out) = refl
    kept (releases now ticket key out) = refl
    kept (writes now key pairs created records room) = refl
    kept (removes now key free) = refl
    kept (clears now choice) = refl

-- the clock goes on to the event's moment
pub step_clock : (old : State) (event : Event) (reply : Reply) (new : State) → Step old event reply new → new.clock ≡ max old.clock (moment_of event)
step_clock old event reply new step = gone (happened old event reply new step)
  where
    gone : {slot : ℕ} {event : Event} {reply : Reply} {new : State} → Happens old slot event reply new → new.clock ≡ max old.clock (moment_of event)
    gone (idles event reply quiet idle) = refl
    gone (tracks now key records room) = refl
    gone (counts now ticket act key out) = refl
    gone (releases now ticket key out) = refl
    gone (writes now key pairs created records room) = refl
    gone (removes now key free) = refl
    gone (clears now choice) = refl

-- ---- the tickets that are out after a step
quiet-told : (event : Event) (reply : Reply) (tickets : List (Ticket × Key)) → IsQuiet reply → tickets_told event reply tickets ≡ tickets
quiet-told event (Tracked ticket row) tickets quiet = absurd quiet
quiet-told event Released tickets quiet = absurd quiet
quiet-told event _ tickets quiet = refl

pub step_tickets : TicketsLaw
step_tickets old event reply new step = told (happened old event reply new step)
  where
    told : {slot : ℕ} {event : Event} {reply : Reply} {new : State} → Happens old slot event reply new → new.tickets ≡ tickets_told event reply old.tickets
    told (idles event reply quiet idle) = sym (quiet-told event reply old.tickets quiet)
    told (tracks now key records room) = refl
    told (counts now ticket act key out) = refl
    told (releases now ticket key out) = refl
    told (writes now key pairs created records room) = refl
    told (removes now key free) = refl
    told (clears now choice) = refl

-- the slot that a reply tells was free, so a stored step can be made again
pub step_free : (old : State) (event : Event) (reply : Reply) (new : State) (slot : ℕ) → Step old event reply new → slot_of reply ≡ Some slot → is_free_slot old slot ≡ true
step_free old event reply new slot step told = subst (λ o. option_map_or (is_free_slot old) o true ≡ true) told step.free

-- ---- which tickets are out after a step

same_ticket-from : (a b c : Ticket) → same_ticket a c ≡ true → same_ticket b c ≡ true → same_ticket a b ≡ true
same_ticket-from a b c one other =
    let number : nat_eq a.number b.number ≡ true = both a.number b.number c.number (and-left (nat_eq a.number c.number) (nat_eq a.slot c.slot) one) (and-left (nat_eq b.number c.number) (nat_eq b.slot c.slot) other) in
    let slot : nat_eq a.slot b.slot ≡ true = both a.slot b.slot c.slot (and-right (nat_eq a.number c.number) (nat_eq a.slot c.slot) one) (and-right (nat_eq b.number c.number) (nat_eq b.slot c.slot) other) in
    ap (λ t. t && nat_eq a.slot b.slot) number ∙ slot
  where
    both : (a b c : ℕ) → nat_eq a c ≡ true → nat_eq b c ≡ true → nat_eq a b ≡ true
    both a b c one other = grind (arith, nat_tests)

key_of-append : (ticket : Ticket) (key : Key) (tickets more : List (Ticket × Key)) → key_of ticket tickets ≡ Some key → key_of ticket (tickets ++ more) ≡ Some key
key_of-append ticket key [] more h = cc
key_of-append ticket key (held ∷ tickets) more h =
    elim (same_ticket ticket held.0) as (λ b. cond b (Some held.1) (key_of ticket tickets) ≡ Some key → cond b (Some held.1) (key_of ticket (tickets ++ more)) ≡ Some key) [ true ↦ λ h. h | false ↦ λ h. key_of-append ticket key tickets more h ] h

key_of-without : (ticket given : Ticket) (key : Key) (tickets : List (Ticket × Key)) → same_ticket ticket given ≡ false → key_of ticket tickets ≡ Some key → key_of ticket (filter (λ (held : Ticket × Key). not (same_ticket given held.0)) tickets) ≡ Some key
key_of-without ticket given key tickets differ h = lookup-filter-at tickets h
  where
    kept : (held : Ticket × Key) → same_ticket ticket held.0 ≡ true → (b : Bool) → same_ticket given held.0 ≡ b → not b ≡ true
    kept held same true is = absurd (false≢true (sym differ ∙ same_ticket-from ticket given held.0 same is))
    kept held same false is = refl

    lookup-filter-at : (tickets : List (Ticket × Key)) → key_of ticket tickets ≡ Some key → key_of ticket (filter (λ (held : Ticket × Key). not (same_ticket given held.0)) tickets) ≡ Some key
    lookup-filter-at tickets h = lookup-filter (same_ticket ticket) (λ (held : Ticket × Key). not (same_ticket given held.0)) tickets (λ held same. kept held same (same_ticket given held.0) refl) ∙ h

-- whether an event gives this ticket back
abbrev pub gives_back : Ticket → Event → Bool
gives_back ticket (Release now given) = same_ticket ticket given
gives_back ticket event = false

-- a ticket that is out stays out, for its key, unless the event gives it back
pub step_keeps_ticket : (old : State) (event : Event) (reply : Reply) (new : State) (ticket : Ticket) (key : Key) → Step old event reply new → gives_back ticket event ≡ false → key_of ticket old.tickets ≡ Some key → key_of ticket new.tickets ≡ Some key
step_keeps_ticket old event reply new ticket key step stays out = kept (happened old event reply new step) stays
  where
    kept : {slot : ℕ} {event : Event} {reply : Reply} {new : State} → Happens old slot event reply new → gives_back ticket event ≡ false → key_of ticket new.tickets ≡ Some key
    kept (idles event reply quiet idle) stays = out
    kept {slot} (tracks now subject records room) stays = key_of-append ticket key old.tickets ((record { number = old.events + 1; slot = slot }, subject) ∷ []) out
    kept (counts now named act subject found) stays = out
    kept (releases now given subject found) stays = key_of-without ticket given key old.tickets stays out
    kept (writes now subject pairs created records room) stays = out
    kept (removes now subject free) stays = out
    kept (clears now choice) stays = out

-- ---- how many tickets are out after a step

-- the tickets that a reply gives, and that it takes
abbrev pub given_by : Reply → ℕ
given_by (Tracked ticket row) = 1
given_by _ = 0

abbrev pub taken_by : Reply → ℕ
taken_by Released = 1
taken_by _ = 0

pub quiet-counts : (reply : Reply) → IsQuiet reply → (given_by reply ≡ 0) × (taken_by reply ≡ 0)
quiet-counts (Tracked ticket row) quiet = absurd quiet
quiet-counts Released quiet = absurd quiet
quiet-counts _ quiet = (refl, refl)

-- an event's places in the life are enough for it, and for the release of the ticket that its reply gives
pub step_places : (old : State) (event : Event) (reply : Reply) (new : State) → Step old event reply new → 1 + given_by reply ≤ life_taken event + taken_by reply
step_places old event reply new step = covers (happened old event reply new step) step.out
  where
    idle : (event : Event) → IsIdle old event → IsTrue (is_out old event) → 1 ≤ life_taken event
    idle (Release now ticket) none out = absurd (false≢true (ap is_some (sym none) ∙ out))
    idle (Track now key) none out = omega arith
    idle (Count now ticket act) none out = omega arith
    idle _ none out = omega arith

    covers : {slot : ℕ} {event : Event} {reply : Reply} {new : State} → Happens old slot event reply new → IsTrue (is_out old event) → 1 + given_by reply ≤ life_taken event + taken_by reply
    covers (idles event reply quiet none) out = let counts = quiet-counts reply quiet in omega (arith, counts.0, counts.1, idle event none out)
    covers (tracks now key records room) out = omega arith
    covers (counts now ticket act key found) out = omega arith
    covers (releases now ticket key found) out = omega arith
    covers (writes now key pairs created records room) out = omega arith
    covers (removes now key free) out = omega arith
    covers (clears now choice) out = omega arith

-- a ticket that is out is one less without it
pub fewer-without : (ticket : Ticket) (tickets : List (Ticket × Key)) → is_some (key_of ticket tickets) ≡ true → length (filter (λ (held : Ticket × Key). not (same_ticket ticket held.0)) tickets) + 1 ≤ length tickets
fewer-without ticket [] out = absurd (false≢true out)
fewer-without ticket (held ∷ tickets) out =
    elim (same_ticket ticket held.0) as (λ b. is_some (cond b (Some held.1) (key_of ticket tickets)) ≡ true → length (cond (not b) (held ∷ filter (λ (held : Ticket × Key). not (same_ticket ticket held.0)) tickets) (filter (λ (held : Ticket × Key). not (same_ticket ticket held.0)) tickets)) + 1 ≤ length (held ∷ tickets)) [
      | true ↦ λ _. omega (arith, length-filter-le (λ (held : Ticket × Key). not (same_ticket ticket held.0)) tickets)
      | false ↦ λ rest. omega (arith, fewer-without ticket tickets rest)
    ] out

-- no more tickets are out than the reply tells
pub step_tickets-le : (old : State) (event : Event) (reply : Reply) (new : State) → Step old event reply new → length new.tickets + taken_by reply ≤ length old.tickets + given_by reply
step_tickets-le old event reply new step = counted (happened old event reply new step) step.out
  where
    counted : {slot : ℕ} {event : Event} {reply : Reply} {new : State} → Happens old slot event reply new → IsTrue (is_out old event) → length new.tickets + taken_by reply ≤ length old.tickets + given_by reply
    counted (idles event reply quiet none) out = let counts = quiet-counts reply quiet in omega (arith, counts.0, counts.1)
    counted {slot} (tracks now key records room) out = let more : List (Ticket × Key) = (record { number = old.events + 1; slot = slot }, key) ∷ [] in omega (arith, length-append old.tickets more)
    counted (counts now ticket act key found) out = omega arith
    counted (releases now ticket key found) out = omega (arith, fewer-without ticket old.tickets out)
    counted (writes now key pairs created records room) out = omega arith
    counted (removes now key free) out = omega arith
    counted (clears now choice) out = omega arith
