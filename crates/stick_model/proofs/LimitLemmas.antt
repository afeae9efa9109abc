-- The limit law.
use Rattle.std.proofs.Common.{◌≡◌, ℕ, ◌+◌, ◌≤◌, refl, sym, ◌∙◌, ap, subst, arith, List, [], ◌∷◌, ◌++◌, append_assoc, Bool, true, false, cond, ◌&&◌, ◌||◌, nat_eq, nat_le, count_by, Option, Some, None, is_some, IsTrue, ◌⊎◌, inl, inr}
use Rattle.std.specs.List.{list_any, AllByRecursion}
use Rattle.std.specs.Option.{option_map_or}
use Rattle.std.proofs.lemmas.Bool.{false≢true}
use Rattle.std.proofs.lemmas.Bool.Decides.{nat_tests}
use Rattle.std.proofs.lemmas.List.Sums.{sum_by-cons}
use Rattle.std.proofs.lemmas.List.Elements.{recursion_from_All}
use Rattle.stick_model.specs.Key.{Key, same_key}
use Rattle.stick_model.specs.State.{State, same_ticket, key_of, refs, record_at, row}
use Rattle.stick_model.specs.Step.{Outcome, Step, begun, get}
use Rattle.stick_model.specs.Run.{Run}
use Rattle.stick_model.specs.Legal.{number_in}
use Rattle.stick_model.specs.Passed.{passing_look, passing_looks, has_passed, passed_count}
use Rattle.stick_model.specs.Laws.{LimitLaw}
use Rattle.stick_model.specs.declared.rows.Ticket.{Ticket}
use Rattle.stick_model.specs.declared.rows.Record.{Record}
use Rattle.stick_model.specs.declared.rows.Row.{Row}
use Rattle.stick_model.specs.declared.events.Event.{Event}
use Rattle.stick_model.specs.declared.events.Event.TheVariants.{Look}
use Rattle.stick_model.specs.declared.replies.Reply.{Reply}
use Rattle.stick_model.specs.declared.replies.Reply.TheVariants.{Absent, Row as ARow}
use Rattle.stick_model.proofs.TestLemmas.{and-left, and-right, eq-from, le-from}
use Rattle.stick_model.proofs.KeyLemmas.{same_key-exact}
use Rattle.stick_model.proofs.StepCases.{Happens, idles, happened}
use Rattle.stick_model.proofs.StepLemmas.{step_changes, step_events, TicketsChange, count-filter, count-more, AllByRecursion-push, AllByRecursion-implies, NumbersUpTo, numbers-changed}

differs : (a b : ℕ) → a ≤ b → nat_eq (b + 1) a ≡ false
differs a b h = grind (arith, nat_tests)

-- a number above all those of a list is none of them
unheard : (ts : List Ticket) (n slot : ℕ) → AllByRecursion (λ (t : Ticket). t.number ≤ n) ts → list_any (same_ticket (record { number = n + 1; slot = slot })) ts ≡ false
unheard [] n slot h = refl
unheard (t ∷ ts) n slot h =
    ap (λ b. (b && nat_eq slot t.slot) || list_any (same_ticket (record { number = n + 1; slot = slot })) ts) (differs t.number n h.0) ∙ unheard ts n slot h.1

and-false : (a b : Bool) → b ≡ false → a && b ≡ false
and-false true b h = h
and-false false b h = refl

passed-changed : (key : Key) (before : List Ticket) (old new : List (Ticket × Key)) (n : ℕ) → AllByRecursion (λ (t : Ticket). t.number ≤ n) before → TicketsChange old (n + 1) new
    → count_by (has_passed key before) new ≤ count_by (has_passed key before) old
passed-changed key before old new n h change =
    let p = has_passed key before in
    let below : List (Ticket × Key) → Type 0 = λ ts. count_by p ts ≤ count_by p old in
    elim change [
      | inl same ↦ subst below (sym same) (omega arith)
      | inr other ↦ elim other [
        | inl one ↦ subst below (sym one.2) (omega (arith, count-more p old (record { number = n + 1; slot = one.0 }, one.1) (and-false (same_key key one.1) _ (unheard before n one.0 h))))
        | inr fewer ↦ subst below (sym fewer.1) (count-filter p fewer.0 old)
      ]
    ]

-- ---- a look that passes
look_refs : (state : State) (key : Key) (o : Option Record) (r : Row) → option_map_or (λ found. ARow (row state key found)) o Absent ≡ ARow r → r.refs ≡ refs r.key state.tickets
look_refs state key None r h = cc
look_refs state key (Some found) r h = let e : row state key found ≡ r = cc in subst (λ (s : Row). s.refs ≡ refs s.key state.tickets) e refl

looked_refs : (state : State) (o : Option Key) (r : Row) → (option_map_or (get state) o (Absent, state)).0 ≡ ARow r → r.refs ≡ refs r.key state.tickets
looked_refs state None r h = cc
looked_refs state (Some key) r h = look_refs state key (record_at key state.records) r h

-- a ticket that is out has a number of the table's
out-number : (ts : List (Ticket × Key)) (ticket : Ticket) (n : ℕ) → is_some (key_of ticket ts) ≡ true → NumbersUpTo n ts → ticket.number ≤ n
out-number [] ticket n h k = absurd (false≢true h)
out-number (held ∷ ts) ticket n h k =
    elim (same_ticket ticket held.0) as (λ b. same_ticket ticket held.0 ≡ b → is_some (cond b (Some held.1) (key_of ticket ts)) ≡ true → ticket.number ≤ n) [
      | true ↦ λ is _. omega (arith, k.0, eq-from ticket.number held.0.number (and-left (nat_eq ticket.number held.0.number) (nat_eq ticket.slot held.0.slot) is))
      | false ↦ λ is rest. out-number ts ticket n rest k.1
    ] refl h

-- of those that pass two tests no more pass than of those that pass one
count-both : {X : Type 0} (p q : X → Bool) (xs : List X) → count_by (λ x. p x && q x) xs ≤ count_by p xs
count-both p q [] = omega arith
count-both p q (x ∷ xs) =
    let rest = count-both p q xs in
    let now : cond (p x && q x) 1 0 ≤ cond (p x) 1 0 = elim (p x) as (λ b. cond (b && q x) 1 0 ≤ cond b 1 0) [ true ↦ elim (q x) as (λ b. cond b 1 0 ≤ 1) [ true ↦ omega arith | false ↦ omega arith ] | false ↦ omega arith ] in
    omega (arith, rest, now, sum_by-cons (λ y. cond (p y && q y) 1 0) x xs, sum_by-cons (λ y. cond (p y) 1 0) x xs)

-- what an event adds to those that passed: nothing, or a ticket that is out, where the count is within the limit
abbrev Passes : Key → ℕ → State → State → List Ticket → Type 0
Passes key limit old new added = (added ≡ []) ⊎ ((t : Ticket) × (added ≡ t ∷ []) × (is_some (key_of t old.tickets) ≡ true) × (refs key new.tickets ≤ limit))

looked_tickets : (old new : State) (now : ℕ) (t : Ticket) (reply : Reply) → Step old (Look now t) reply new → new.tickets ≡ old.tickets
looked_tickets old new now t reply step = same (happened old (Look now t) reply new step)
  where
    same : {slot : ℕ} {new : State} → Happens old slot (Look now t) reply new → new.tickets ≡ old.tickets
    same (idles event reply quiet idle) = refl

passes-look : (key : Key) (limit : ℕ) (old new : State) (now : ℕ) (t : Ticket) (r : Row) → Step old (Look now t) (ARow r) new → Passes key limit old new (passing_look key limit (Look now t) (ARow r))
passes-look key limit old new now t r step =
    let shown : r.refs ≡ refs r.key old.tickets = looked_refs (begun old now) (key_of t old.tickets) r (ap (λ (o : Outcome). o.0) step.gives) in
    elim (same_key key r.key && nat_le r.refs limit) as (λ b. same_key key r.key && nat_le r.refs limit ≡ b → Passes key limit old new (cond b (t ∷ []) [])) [
      | true ↦ λ is. inr (t, refl, out-true (is_some (key_of t old.tickets)) step.out, (let one : key ≡ r.key = same_key-exact key r.key (and-left (same_key key r.key) (nat_le r.refs limit) is) in let low : r.refs ≤ limit = le-from r.refs limit (and-right (same_key key r.key) (nat_le r.refs limit) is) in subst (λ ts. refs key ts ≤ limit) (sym (looked_tickets old new now t (ARow r) step)) (subst (λ k. refs k old.tickets ≤ limit) (sym one) (omega (arith, shown, low)))))
      | false ↦ λ _. inl refl
    ] refl
  where
    out-true : (b : Bool) → IsTrue b → b ≡ true
    out-true b h = h

passes : (key : Key) (limit : ℕ) (old new : State) (event : Event) (reply : Reply) → Step old event reply new → Passes key limit old new (passing_look key limit event reply)
passes key limit old new (Look now t) (ARow r) step = passes-look key limit old new now t r step
passes key limit old new _ _ step = inl refl

-- ---- the limit
pub append-nil : {X : Type 0} (xs : List X) → xs ++ [] ≡ xs
append-nil [] = refl
append-nil (x ∷ xs) = ap (λ ys. x ∷ ys) (append-nil xs)

abbrev Past : ℕ → List Ticket → Type 0
Past n ts = AllByRecursion (λ (t : Ticket). t.number ≤ n) ts

past-more : (n m : ℕ) (ts : List Ticket) → n ≤ m → Past n ts → Past m ts
past-more n m ts le h = AllByRecursion-implies (λ (t : Ticket). t.number ≤ n) (λ (t : Ticket). t.number ≤ m) (λ t k. omega arith) ts h

-- one step keeps the count within the limit
step-limit : (key : Key) (limit : ℕ) (old new : State) (event : Event) (reply : Reply) (before : List Ticket) → NumbersUpTo old.events old.tickets → Past old.events before → passed_count key before old ≤ limit → Step old event reply new
    → NumbersUpTo new.events new.tickets × Past new.events (before ++ passing_look key limit event reply) × (passed_count key (before ++ passing_look key limit event reply) new ≤ limit)
step-limit key limit old new event reply before numbers past low step =
    let change = step_changes old event reply new step in
    let later : new.events ≡ old.events + 1 = step_events old event reply new step in
    let numbered : NumbersUpTo new.events new.tickets = subst (λ n. NumbersUpTo n new.tickets) (sym later) (numbers-changed old.tickets new.tickets old.events numbers change) in
    elim (passes key limit old new event reply step) [
      | inl none ↦
          let same : before ++ passing_look key limit event reply ≡ before = ap (λ ts. before ++ ts) none ∙ append-nil before in (
            numbered,
            subst (Past new.events) (sym same) (past-more old.events new.events before (omega arith) past),
            subst (λ ts. passed_count key ts new ≤ limit) (sym same) (omega (arith, passed-changed key before old.tickets new.tickets old.events past change)),
          )
      | inr one ↦
          let joined : before ++ passing_look key limit event reply ≡ before ++ one.0 ∷ [] = ap (λ ts. before ++ ts) one.1 in
          let number : one.0.number ≤ old.events = out-number old.tickets one.0 old.events one.2 numbers in (
            numbered,
            subst (Past new.events) (sym joined) (AllByRecursion-push (λ (t : Ticket). t.number ≤ new.events) before one.0 (past-more old.events new.events before (omega arith) past) (omega arith)),
            omega (arith, one.3, count-both (λ (held : Ticket × Key). same_key key held.1) (λ (held : Ticket × Key). list_any (same_ticket held.0) (before ++ passing_look key limit event reply)) new.tickets),
          )
    ]

run-limit : (key : Key) (limit : ℕ) (events : List Event) (replies : List Reply) (old new : State) (before : List Ticket) → NumbersUpTo old.events old.tickets → Past old.events before → passed_count key before old ≤ limit
    → Run old events replies new → passed_count key (before ++ passing_looks key limit events replies) new ≤ limit
run-limit key limit [] [] old new before numbers past low run =
    subst (λ ts. passed_count key ts new ≤ limit) (sym (append-nil before)) (subst (λ s. passed_count key before s ≤ limit) (sym run) low)
run-limit key limit [] (reply ∷ replies) old new before numbers past low run = absurd run
run-limit key limit (event ∷ events) [] old new before numbers past low run = absurd run
run-limit key limit (event ∷ events) (reply ∷ replies) old new before numbers past low run =
    let next = step-limit key limit old run.0 event reply before numbers past low run.1 in
    subst (λ ts. passed_count key ts new ≤ limit) (append_assoc before (passing_look key limit event reply) (passing_looks key limit events replies))
    (run-limit key limit events replies run.0 new (before ++ passing_look key limit event reply) next.0 next.1 next.2 run.2)

count-none : (key : Key) (tickets : List (Ticket × Key)) → count_by (has_passed key []) tickets ≡ 0
count-none key [] = refl
count-none key (held ∷ tickets) =
    let none : ◌≡◌ {A = ℕ} (cond (has_passed key [] held) 1 0) 0 = ap (λ b. cond b 1 0) (and-false (same_key key held.1) false refl) in
    omega (arith, none, count-none key tickets, sum_by-cons (λ (h : Ticket × Key). cond (has_passed key [] h) 1 0) held tickets)

pub limit-law : LimitLaw
limit-law old events replies new key limit legal run =
    run-limit key limit events replies old new [] (recursion_from_All (λ held. number_in held ≤ old.events) old.tickets legal.numbers_past) tt (omega (arith, count-none key old.tickets)) run
