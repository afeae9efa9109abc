-- How often a ticket is out, before and after a step.
use Rattle.std.proofs.Common.{◌≡◌, ℕ, ◌+◌, ◌≤◌, refl, sym, ap, ◌∙◌, arith, Bool, true, false, cond, not, nat_eq, ◌&&◌, List, [], ◌∷◌, ◌++◌, filter, map, count_by}
use Rattle.std.proofs.lemmas.Bool.{false≢true}
use Rattle.std.proofs.lemmas.Bool.Decides.{nat_tests}
use Rattle.std.specs.List.{AllByRecursion, IsDistinct}
use Rattle.std.proofs.lemmas.List.Sums.{sum_by-cons, sum_by_push}
use Rattle.std.proofs.lemmas.Map.Keys.{IsDistinct-head, IsDistinct-tail}
use Rattle.stick_model.specs.Key.{Key}
use Rattle.stick_model.specs.State.{State, same_ticket}
use Rattle.stick_model.specs.Legal.{IsLegal, number_in}
use Rattle.stick_model.specs.Step.{Step}
use Rattle.stick_model.specs.declared.events.Event.{Event}
use Rattle.stick_model.specs.declared.events.Event.TheVariants.{Release}
use Rattle.stick_model.specs.declared.replies.Reply.TheVariants.{Tracked, Released}
use Rattle.stick_model.specs.declared.rows.Row.{Row}
use Rattle.stick_model.specs.declared.rows.Ticket.{Ticket}
use Rattle.stick_model.proofs.StepLemmas.{step_tickets}
use Rattle.stick_model.proofs.TestLemmas.{and-left, eq-from}
use Rattle.admit_drive.specs.Balance.{times_of}

abbrev pub times : Ticket → List (Ticket × Key) → ℕ
times ticket tickets = count_by (λ (held : Ticket × Key). same_ticket ticket held.0) tickets

abbrev pub same : Ticket → Ticket → ℕ
same a b = cond (same_ticket a b) 1 0

-- ---- one more, and without one

pub times_push : (ticket given : Ticket) (key : Key) (tickets : List (Ticket × Key)) → times ticket (tickets ++ (given, key) ∷ []) ≡ times ticket tickets + same ticket given
times_push ticket given key tickets = sum_by_push (λ (held : Ticket × Key). cond (same_ticket ticket held.0) 1 0) tickets (given, key)

-- two that are the same as a third are the same
same_both : (a b c d e f : ℕ) → (nat_eq a c && nat_eq b d) ≡ true → (nat_eq e c && nat_eq f d) ≡ true → (nat_eq a e && nat_eq b f) ≡ true
same_both a b c d e f one other = grind (arith, nat_tests)

pub same_through : (a b c : Ticket) → same_ticket a c ≡ true → same_ticket b c ≡ true → same_ticket a b ≡ true
same_through a b c one other = same_both a.number a.slot c.number c.slot b.number b.slot one other

pub same_self : (a : Ticket) → same_ticket a a ≡ true
same_self a = self a.number a.slot
  where
    self : (a b : ℕ) → (nat_eq a a && nat_eq b b) ≡ true
    self a b = grind (arith, nat_tests)

pub same_turned : (a b : Ticket) → same_ticket a b ≡ true → same_ticket b a ≡ true
same_turned a b is = same_through b a b (same_self b) is

abbrev pub without : Ticket → List (Ticket × Key) → List (Ticket × Key)
without given tickets = filter (λ (held : Ticket × Key). not (same_ticket given held.0)) tickets

-- one that is given back is out no more
times_same : (ticket given : Ticket) (tickets : List (Ticket × Key)) → same_ticket ticket given ≡ true → (times ticket (without given tickets) ≡ 0) × (times ticket tickets ≡ times given tickets)
times_same ticket given [] is = (refl, refl)
times_same ticket given (held ∷ tickets) is = (
  elim (same_ticket given held.0) as (λ b. same_ticket given held.0 ≡ b → times ticket (cond (not b) (held ∷ without given tickets) (without given tickets)) ≡ 0) [
    | true ↦ λ here. (times_same ticket given tickets is).0
    | false ↦ λ there.
        let other : ◌≡◌ {A = ℕ} (cond (same_ticket ticket held.0) 1 0) 0 = ap (λ b. cond b 1 0) (differs (same_ticket ticket held.0) refl there) in
        omega (arith, other, (times_same ticket given tickets is).0, sum_by-cons (λ (h : Ticket × Key). cond (same_ticket ticket h.0) 1 0) held (without given tickets))
  ] refl,
  (let one : ◌≡◌ {A = ℕ} (cond (same_ticket ticket held.0) 1 0) (cond (same_ticket given held.0) 1 0) = ap (λ b. cond b 1 0) (alike (same_ticket ticket held.0) (same_ticket given held.0) refl refl) in
      omega (arith, one, (times_same ticket given tickets is).1, sum_by-cons (λ (h : Ticket × Key). cond (same_ticket ticket h.0) 1 0) held tickets, sum_by-cons (λ (h : Ticket × Key). cond (same_ticket given h.0) 1 0) held tickets)),
)
  where
    differs : (b : Bool) → same_ticket ticket held.0 ≡ b → same_ticket given held.0 ≡ false → b ≡ false
    differs true here there = absurd (false≢true (sym there ∙ same_through given held.0 ticket (same_turned ticket given is) (same_turned ticket held.0 here)))
    differs false here there = refl

    alike : (a b : Bool) → same_ticket ticket held.0 ≡ a → same_ticket given held.0 ≡ b → a ≡ b
    alike true true one other = refl
    alike false false one other = refl
    alike true false one other = absurd (false≢true (sym other ∙ same_through given held.0 ticket (same_turned ticket given is) (same_turned ticket held.0 one)))
    alike false true one other = absurd (false≢true (sym one ∙ same_through ticket held.0 given is (same_turned given held.0 other)))

-- any other is as often out as before
times_other : (ticket given : Ticket) (tickets : List (Ticket × Key)) → same_ticket ticket given ≡ false → times ticket (without given tickets) ≡ times ticket tickets
times_other ticket given [] differ = refl
times_other ticket given (held ∷ tickets) differ =
    elim (same_ticket given held.0) as (λ b. same_ticket given held.0 ≡ b → times ticket (cond (not b) (held ∷ without given tickets) (without given tickets)) ≡ times ticket (held ∷ tickets)) [
      | true ↦ λ here.
          let none : ◌≡◌ {A = ℕ} (cond (same_ticket ticket held.0) 1 0) 0 = ap (λ b. cond b 1 0) (apart (same_ticket ticket held.0) refl here) in
          omega (arith, none, times_other ticket given tickets differ, sum_by-cons (λ (h : Ticket × Key). cond (same_ticket ticket h.0) 1 0) held tickets)
      | false ↦ λ there.
          omega (arith, times_other ticket given tickets differ, sum_by-cons (λ (h : Ticket × Key). cond (same_ticket ticket h.0) 1 0) held tickets, sum_by-cons (λ (h : Ticket × Key). cond (same_ticket ticket h.0) 1 0) held (without given tickets))
    ] refl
  where
    apart : (b : Bool) → same_ticket ticket held.0 ≡ b → same_ticket given held.0 ≡ true → b ≡ false
    apart true here there = absurd (false≢true (sym differ ∙ same_through ticket given held.0 here there))
    apart false here there = refl

pub times_without : (ticket given : Ticket) (tickets : List (Ticket × Key)) → times given tickets ≡ 1 → times ticket (without given tickets) + same ticket given ≡ times ticket tickets
times_without ticket given tickets one =
    elim (same_ticket ticket given) as (λ b. same_ticket ticket given ≡ b → times ticket (without given tickets) + cond b 1 0 ≡ times ticket tickets) [
      | true ↦ λ is. let both = times_same ticket given tickets is in omega (arith, both.0, both.1, one)
      | false ↦ λ differ. omega (arith, times_other ticket given tickets differ)
    ] refl

-- ---- a legal state has a ticket out once at most

-- a number that all others differ from
none_of : (ticket : Ticket) (tickets : List (Ticket × Key)) (n : ℕ) → ticket.number ≡ n → AllByRecursion (λ m. nat_eq n m ≡ false) (map number_in tickets) → times ticket tickets ≡ 0
none_of ticket [] n is all = refl
none_of ticket (held ∷ tickets) n is all =
    let zero : ◌≡◌ {A = ℕ} (cond (same_ticket ticket held.0) 1 0) 0 = ap (λ b. cond (b && nat_eq ticket.slot held.0.slot) 1 0) (ap (λ m. nat_eq m held.0.number) is ∙ all.0) in
    omega (arith, zero, none_of ticket tickets n is all.1, sum_by-cons (λ (h : Ticket × Key). cond (same_ticket ticket h.0) 1 0) held tickets)

times_once : (ticket : Ticket) (tickets : List (Ticket × Key)) → IsDistinct nat_eq (map number_in tickets) → times ticket tickets ≤ 1
times_once ticket [] distinct = omega arith
times_once ticket (held ∷ tickets) distinct =
    elim (same_ticket ticket held.0) as (λ b. same_ticket ticket held.0 ≡ b → times ticket (held ∷ tickets) ≤ 1) [
      | true ↦ λ is.
          let number : ticket.number ≡ held.0.number = eq-from ticket.number held.0.number (and-left (nat_eq ticket.number held.0.number) (nat_eq ticket.slot held.0.slot) is) in
          let none : times ticket tickets ≡ 0 = none_of ticket tickets held.0.number number (IsDistinct-head nat_eq held.0.number (map number_in tickets) distinct) in
          let one : ◌≡◌ {A = ℕ} (cond (same_ticket ticket held.0) 1 0) 1 = ap (λ b. cond b 1 0) is in
          omega (arith, none, one, sum_by-cons (λ (h : Ticket × Key). cond (same_ticket ticket h.0) 1 0) held tickets)
      | false ↦ λ differ.
          let none : ◌≡◌ {A = ℕ} (cond (same_ticket ticket held.0) 1 0) 0 = ap (λ b. cond b 1 0) differ in
          omega (arith, none, times_once ticket tickets (IsDistinct-tail nat_eq held.0.number (map number_in tickets) distinct), sum_by-cons (λ (h : Ticket × Key). cond (same_ticket ticket h.0) 1 0) held tickets)
    ] refl

pub once_of : (ticket : Ticket) (state : State) → IsLegal state → times_of ticket state ≤ 1
once_of ticket state legal = times_once ticket state.tickets legal.numbers_differ

-- ---- what a step's reply tells

pub tracked_times : (old : State) (event : Event) (given : Ticket) (row : Row) (new : State) (ticket : Ticket) → Step old event (Tracked given row) new → times_of ticket new ≡ times_of ticket old + same ticket given
tracked_times old event given row new ticket step = ap (times ticket) (step_tickets old event (Tracked given row) new step) ∙ times_push ticket given row.key old.tickets

pub released_times : (old : State) (now : ℕ) (given : Ticket) (new : State) (ticket : Ticket) → times_of given old ≡ 1 → Step old (Release now given) Released new → times_of ticket new + same ticket given ≡ times_of ticket old
released_times old now given new ticket one step =
    let told : times_of ticket new ≡ times ticket (without given old.tickets) = ap (times ticket) (step_tickets old (Release now given) Released new step) in
    omega (arith, told, times_without ticket given old.tickets one)
