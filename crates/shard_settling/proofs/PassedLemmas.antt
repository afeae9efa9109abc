-- The references that are out after a run, and had a look at a key: they are of that key.
use Rattle.std.proofs.Common.{◌≡◌, ℕ, ◌+◌, ◌≤◌, refl, sym, ◌∙◌, ap, subst, arith, List, [], ◌∷◌, ◌++◌, append_assoc, Bool, true, false, cond, ◌&&◌, ◌||◌, nat_eq, nat_le, count_by, map, Option, Some, None, ◌⊎◌, inl, inr}
use Rattle.std.specs.List.{list_any, AllByRecursion, IsDistinct}
use Rattle.std.specs.Option.{option_map_or}
use Rattle.std.proofs.lemmas.Bool.{false≢true}
use Rattle.std.proofs.lemmas.Bool.Decides.{nat_tests}
use Rattle.std.proofs.lemmas.List.Folds.{list_any-append}
use Rattle.std.proofs.lemmas.List.Sums.{sum_by-cons}
use Rattle.stick_model.specs.Key.{Key, same_key}
use Rattle.stick_model.specs.State.{State, same_ticket, key_of, record_at, row}
use Rattle.stick_model.specs.Step.{Outcome, Step, begun, get}
use Rattle.stick_model.specs.Run.{Run}
use Rattle.stick_model.specs.Legal.{IsLegal, number_in}
use Rattle.stick_model.specs.Passed.{passing_look, passing_looks, passed_count}
use Rattle.stick_model.specs.declared.rows.Ticket.{Ticket}
use Rattle.stick_model.specs.declared.rows.Record.{Record}
use Rattle.stick_model.specs.declared.rows.Row.{Row}
use Rattle.stick_model.specs.declared.events.Event.{Event}
use Rattle.stick_model.specs.declared.events.Event.TheVariants.{Look}
use Rattle.stick_model.specs.declared.replies.Reply.{Reply}
use Rattle.stick_model.specs.declared.replies.Reply.TheVariants.{Absent, Row as ARow}
use Rattle.stick_model.proofs.TestLemmas.{and-left, and-right, eq-from}
use Rattle.stick_model.proofs.StepLemmas.{TicketsChange, step_changes, step_events, AllByRecursion-filter, AllByRecursion-push, AllByRecursion-implies}
use Rattle.stick_model.proofs.LegalLemmas.{IsOrderly, orderly-from_legal, step_orderly}
use Rattle.stick_model.proofs.LimitLemmas.{append-nil, limit-law}

differs : (a b : ℕ) → a ≤ b → nat_eq (b + 1) a ≡ false
differs a b h = grind (arith, nat_tests)

-- a number above all those of a list is none of them
unheard : (ts : List Ticket) (n slot : ℕ) → AllByRecursion (λ (t : Ticket). t.number ≤ n) ts → list_any (same_ticket (record { number = n + 1; slot = slot })) ts ≡ false
unheard [] n slot h = refl
unheard (t ∷ ts) n slot h =
    ap (λ b. (b && nat_eq slot t.slot) || list_any (same_ticket (record { number = n + 1; slot = slot })) ts) (differs t.number n h.0) ∙ unheard ts n slot h.1

pub or-cases : (a b : Bool) → a || b ≡ true → (a ≡ true) ⊎ (b ≡ true)
or-cases true b h = inl refl
or-cases false b h = inr h

for_both : {X : Type 0} (P Q R : X → Type 0) → ((x : X) → P x → Q x → R x) → (xs : List X) → AllByRecursion P xs → AllByRecursion Q xs → AllByRecursion R xs
for_both P Q R f [] p q = tt
for_both P Q R f (x ∷ xs) p q = (f x p.0 q.0, for_both P Q R f xs p.1 q.1)

-- ---- a ticket is out for one key

same_number : (t u : Ticket) → same_ticket t u ≡ true → t.number ≡ u.number
same_number t u same = eq-from t.number u.number (and-left (nat_eq t.number u.number) (nat_eq t.slot u.slot) same)

nat_swap : (a b : ℕ) → nat_eq a b ≡ true → nat_eq b a ≡ true
nat_swap a b h = grind (arith, nat_tests)

and-both : (a b : Bool) → a ≡ true → b ≡ true → a && b ≡ true
and-both a b x y = (λ i. x i && y i)

same_swap : (t u : Ticket) → same_ticket t u ≡ true → same_ticket u t ≡ true
same_swap t u same =
    and-both (nat_eq u.number t.number) (nat_eq u.slot t.slot) (nat_swap t.number u.number (and-left (nat_eq t.number u.number) (nat_eq t.slot u.slot) same)) (nat_swap t.slot u.slot (and-right (nat_eq t.number u.number) (nat_eq t.slot u.slot) same))

one_some : {X : Type 0} (x y : X) → Some x ≡ Some y → x ≡ y
one_some x y e = cc

none_is_some : {X : Type 0} (x : X) → None ≡ Some x → ⊥
none_is_some x e = cc

number_same : (a b : ℕ) → a ≡ b → nat_eq a b ≡ false → ⊥
number_same a b same other = grind (arith, nat_tests)

-- none of these has the ticket's number
others : (t : Ticket) (k : Key) (n : ℕ) (tickets : List (Ticket × Key)) → t.number ≡ n → AllByRecursion (λ m. nat_eq n m ≡ false) (map number_in tickets) → AllByRecursion (λ (held : Ticket × Key). same_ticket held.0 t ≡ true → held.1 ≡ k) tickets
others t k n [] same differ = tt
others t k n (held ∷ tickets) same differ =
    ((λ here. absurd (number_same n held.0.number (sym same ∙ sym (same_number held.0 t here)) differ.0)), others t k n tickets same differ.1)

one_key : (t : Ticket) (k : Key) (tickets : List (Ticket × Key)) → IsDistinct nat_eq (map number_in tickets) → key_of t tickets ≡ Some k → AllByRecursion (λ (held : Ticket × Key). same_ticket held.0 t ≡ true → held.1 ≡ k) tickets
unfolding IsDistinct
one_key t k [] differ is = tt
one_key t k (held ∷ tickets) differ is =
    elim (same_ticket t held.0) as (λ b. same_ticket t held.0 ≡ b → cond b (Some held.1) (key_of t tickets) ≡ Some k → AllByRecursion (λ (held : Ticket × Key). same_ticket held.0 t ≡ true → held.1 ≡ k) (held ∷ tickets)) [
      | true ↦ λ same here. ((λ _. one_some held.1 k here), others t k held.0.number tickets (same_number t held.0 same) differ.0)
      | false ↦ λ other rest. ((λ same. absurd (false≢true (sym other ∙ same_swap held.0 t same))), one_key t k tickets differ.1 rest)
    ] refl is

-- a ticket that is out has a number of the table's
out_number : (t : Ticket) (k : Key) (n : ℕ) (tickets : List (Ticket × Key)) → key_of t tickets ≡ Some k → AllByRecursion (λ m. m ≤ n) (map number_in tickets) → t.number ≤ n
out_number t k n [] is past = absurd (none_is_some k is)
out_number t k n (held ∷ tickets) is past =
    elim (same_ticket t held.0) as (λ b. same_ticket t held.0 ≡ b → cond b (Some held.1) (key_of t tickets) ≡ Some k → t.number ≤ n) [
      | true ↦ λ same _. omega (arith, past.0, same_number t held.0 same)
      | false ↦ λ _ rest. out_number t k n tickets rest past.1
    ] refl is

-- ---- a look that passes

looked_key : (state : State) (key : Key) (found : Option Record) (r : Row) → option_map_or (λ one. ARow (row state key one)) found Absent ≡ ARow r → r.key ≡ key
looked_key state key None r h = cc
looked_key state key (Some one) r h = let e : row state key one ≡ r = cc in ap (λ (s : Row). s.key) (sym e)

looked_of : (state : State) (found : Option Key) (r : Row) → (option_map_or (get state) found (Absent, state)).0 ≡ ARow r → found ≡ Some r.key
looked_of state None r h = cc
looked_of state (Some key) r h = ap Some (sym (looked_key state key (record_at key state.records) r h))

-- what an event adds to those that passed: nothing, or a ticket that is out for the key
abbrev Passes : Key → State → List Ticket → Type 0
Passes key old added = (added ≡ []) ⊎ ((t : Ticket) × (k : Key) × (added ≡ t ∷ []) × (key_of t old.tickets ≡ Some k) × (same_key key k ≡ true))

passes : (key : Key) (limit : ℕ) (old new : State) (event : Event) (reply : Reply) → Step old event reply new → Passes key old (passing_look key limit event reply)
passes key limit old new (Look now t) (ARow r) step =
    elim (same_key key r.key && nat_le r.refs limit) as (λ b. same_key key r.key && nat_le r.refs limit ≡ b → Passes key old (cond b (t ∷ []) [])) [
      | true ↦ λ is. inr (t, r.key, refl, looked_of (begun old now) (key_of t old.tickets) r (ap (λ (o : Outcome). o.0) step.gives), and-left (same_key key r.key) (nat_le r.refs limit) is)
      | false ↦ λ _. inl refl
    ] refl
passes key limit old new _ _ step = inl refl

-- ---- they are of the key

-- each of these that has passed is of the key
abbrev AreOfKey : Key → List Ticket → List (Ticket × Key) → Type 0
AreOfKey key passed tickets = AllByRecursion (λ (held : Ticket × Key). list_any (same_ticket held.0) passed ≡ true → same_key key held.1 ≡ true) tickets

abbrev Past : ℕ → List Ticket → Type 0
Past n ts = AllByRecursion (λ (t : Ticket). t.number ≤ n) ts

changed : (key : Key) (passed : List Ticket) (old new : List (Ticket × Key)) (n : ℕ) → Past n passed → TicketsChange old (n + 1) new → AreOfKey key passed old → AreOfKey key passed new
changed key passed old new n past change are =
    let P : Ticket × Key → Type 0 = λ held. list_any (same_ticket held.0) passed ≡ true → same_key key held.1 ≡ true in
    elim change [
      | inl same ↦ subst (AreOfKey key passed) (sym same) are
      | inr other ↦ elim other [
        | inl one ↦ subst (AreOfKey key passed) (sym one.2) (AllByRecursion-push P old (record { number = n + 1; slot = one.0 }, one.1) are (λ heard. absurd (false≢true (sym (unheard passed n one.0 past) ∙ heard))))
        | inr fewer ↦ subst (AreOfKey key passed) (sym fewer.1) (AllByRecursion-filter P fewer.0 old are)
      ]
    ]

one_more : (key k : Key) (t : Ticket) (passed : List Ticket) (tickets : List (Ticket × Key)) → same_key key k ≡ true → AllByRecursion (λ (held : Ticket × Key). same_ticket held.0 t ≡ true → held.1 ≡ k) tickets → AreOfKey key passed tickets → AreOfKey key (passed ++ t ∷ []) tickets
one_more key k t passed tickets same only are =
    for_both
    (λ (held : Ticket × Key). same_ticket held.0 t ≡ true → held.1 ≡ k)
    (λ (held : Ticket × Key). list_any (same_ticket held.0) passed ≡ true → same_key key held.1 ≡ true)
    (λ (held : Ticket × Key). list_any (same_ticket held.0) (passed ++ t ∷ []) ≡ true → same_key key held.1 ≡ true)
    (λ held one before heard.
    elim (or-cases (list_any (same_ticket held.0) passed) (same_ticket held.0 t || false) (sym (list_any-append (same_ticket held.0) passed (t ∷ [])) ∙ heard)) [
      | inl there ↦ before there
      | inr here ↦ ap (same_key key) (one (last (same_ticket held.0 t) here)) ∙ same
    ])
    tickets only are
  where
    last : (b : Bool) → b || false ≡ true → b ≡ true
    last true h = refl
    last false h = h

past_later : (n m : ℕ) (ts : List Ticket) → n ≤ m → Past n ts → Past m ts
past_later n m ts le h = AllByRecursion-implies (λ (t : Ticket). t.number ≤ n) (λ (t : Ticket). t.number ≤ m) (λ t k. omega (arith, k, le)) ts h

-- one step
step_of_key : (key : Key) (limit : ℕ) (old new : State) (event : Event) (reply : Reply) (before : List Ticket) → IsOrderly old → Past old.events before → AreOfKey key before old.tickets → Step old event reply new
    → Past new.events (before ++ passing_look key limit event reply) × AreOfKey key (before ++ passing_look key limit event reply) new.tickets
step_of_key key limit old new event reply before orderly past are step =
    let change = step_changes old event reply new step in
    let later : new.events ≡ old.events + 1 = step_events old event reply new step in
    let up : old.events ≤ new.events = omega (arith, later) in
    elim (passes key limit old new event reply step) [
      | inl none ↦
          let same : before ++ passing_look key limit event reply ≡ before = ap (λ ts. before ++ ts) none ∙ append-nil before in
          (subst (Past new.events) (sym same) (past_later old.events new.events before up past), subst (λ ts. AreOfKey key ts new.tickets) (sym same) (changed key before old.tickets new.tickets old.events past change are))
      | inr one ↦
          let joined : before ++ passing_look key limit event reply ≡ before ++ one.0 ∷ [] = ap (λ ts. before ++ ts) one.2 in
          let number : one.0.number ≤ old.events = out_number one.0 one.1 old.events old.tickets one.3 orderly.numbered.numbers_past in
          let more : Past old.events (before ++ one.0 ∷ []) = AllByRecursion-push (λ (t : Ticket). t.number ≤ old.events) before one.0 past number in
          let only = one_key one.0 one.1 old.tickets orderly.numbered.numbers_differ one.3 in (
            subst (Past new.events) (sym joined) (past_later old.events new.events (before ++ one.0 ∷ []) up more),
            subst (λ ts. AreOfKey key ts new.tickets) (sym joined) (changed key (before ++ one.0 ∷ []) old.tickets new.tickets old.events more change (one_more key one.1 one.0 before old.tickets one.4 only are)),
          )
    ]

run_of_key : (key : Key) (limit : ℕ) (events : List Event) (replies : List Reply) (old new : State) (before : List Ticket) → IsOrderly old → Past old.events before → AreOfKey key before old.tickets → Run old events replies new
    → AreOfKey key (before ++ passing_looks key limit events replies) new.tickets
run_of_key key limit [] [] old new before orderly past are run = subst (λ ts. AreOfKey key ts new.tickets) (sym (append-nil before)) (subst (λ (s : State). AreOfKey key before s.tickets) (sym run) are)
run_of_key key limit [] (reply ∷ replies) old new before orderly past are run = absurd run
run_of_key key limit (event ∷ events) [] old new before orderly past are run = absurd run
run_of_key key limit (event ∷ events) (reply ∷ replies) old new before orderly past are run =
    let next = step_of_key key limit old run.0 event reply before orderly past are run.1 in
    subst (λ ts. AreOfKey key ts new.tickets) (append_assoc before (passing_look key limit event reply) (passing_looks key limit events replies))
    (run_of_key key limit events replies run.0 new (before ++ passing_look key limit event reply) (step_orderly old event reply run.0 orderly run.1) next.0 next.1 run.2)

none_heard : (key : Key) (tickets : List (Ticket × Key)) → AreOfKey key [] tickets
none_heard key [] = tt
none_heard key (held ∷ tickets) = ((λ heard. absurd (false≢true heard)), none_heard key tickets)

count_key : (key : Key) (passed : List Ticket) (tickets : List (Ticket × Key)) → AreOfKey key passed tickets
    → count_by (λ (held : Ticket × Key). list_any (same_ticket held.0) passed) tickets ≤ count_by (λ (held : Ticket × Key). same_key key held.1 && list_any (same_ticket held.0) passed) tickets
count_key key passed [] are = omega arith
count_key key passed (held ∷ tickets) are =
    let rest = count_key key passed tickets are.1 in
    let one : cond (list_any (same_ticket held.0) passed) 1 0 ≤ cond (same_key key held.1 && list_any (same_ticket held.0) passed) 1 0 = test (list_any (same_ticket held.0) passed) (same_key key held.1) are.0 in
    omega (arith, rest, one, sum_by-cons (λ (h : Ticket × Key). cond (list_any (same_ticket h.0) passed) 1 0) held tickets, sum_by-cons (λ (h : Ticket × Key). cond (same_key key h.1 && list_any (same_ticket h.0) passed) 1 0) held tickets)
  where
    test : (heard same : Bool) → (heard ≡ true → same ≡ true) → cond heard 1 0 ≤ cond (same && heard) 1 0
    test false same h = omega arith
    test true same h = subst (λ b. cond true 1 0 ≤ cond (b && true) 1 0) (sym (h refl)) (omega arith)

-- at most `limit` references are out that had, in the run, a look at the key whose row has at most `limit` references
pub passed_limit : (key : Key) (limit : ℕ) (events : List Event) (replies : List Reply) (old new : State) → IsLegal old → Run old events replies new
    → count_by (λ (held : Ticket × Key). list_any (same_ticket held.0) (passing_looks key limit events replies)) new.tickets ≤ limit
passed_limit key limit events replies old new legal run =
    let keyed : passed_count key (passing_looks key limit events replies) new ≤ limit = limit-law old events replies new key limit legal run in
    let are = run_of_key key limit events replies old new [] (orderly-from_legal old legal) tt (none_heard key old.tickets) run in
    let unkeyed = count_key key (passing_looks key limit events replies) new.tickets are in
    omega (arith, keyed, unkeyed)
