-- What a call does to the references that are out, however they are weighed.
use Rattle.std.proofs.Common.{◌≡◌, ℕ, ◌+◌, ◌≤◌, refl, sym, ap, subst, ◌∙◌, arith, Bool, true, false, cond, not, nat_eq, ◌&&◌, ◌⊎◌, inl, inr, ⊎_elim, List, [], ◌∷◌, filter, map, sum_by, count_by}
use Rattle.std.proofs.lemmas.Bool.Decides.{nat_tests}
use Rattle.std.specs.List.{AllByRecursion, IsDistinct}
use Rattle.std.proofs.lemmas.List.Sums.{sum_by-cons, sum_by_push}
use Rattle.std.proofs.lemmas.Map.Keys.{IsDistinct-head, IsDistinct-tail}
use Rattle.stick_model.specs.Key.{Key, same_key}
use Rattle.stick_model.specs.State.{same_ticket}
use Rattle.stick_model.specs.Legal.{number_in}
use Rattle.stick_model.specs.Laws.{tickets_told}
use Rattle.stick_model.specs.declared.events.Event.{Event}
use Rattle.stick_model.specs.declared.events.Event.TheVariants.{Get, Track, Look, Count, Release, Put, Clear, ClearWhere, List as ListRows, Expire}
use Rattle.stick_model.specs.declared.replies.Reply.{Reply}
use Rattle.stick_model.specs.declared.replies.Reply.TheVariants.{Absent, Row as ARow, NoRefs, Full, Tracked, Value, Released, NotSettable, NotStored, Written, InUse, Removed, Cleared, Rows, Expired}
use Rattle.stick_model.specs.declared.rows.Row.{Row}
use Rattle.stick_model.specs.declared.rows.Ticket.{Ticket}
use Rattle.stick_model.proofs.TestLemmas.{and-left, and-right, eq-from}
use Rattle.stick_model.proofs.KeyLemmas.{same_key-exact, same_key-refl}
use Rattle.shard_record.specs.Calls.{Held}
use Rattle.shard_record.specs.Parts.{Owns}

-- what becomes of references
abbrev pub Changes : Event → Reply → Type 0
Changes event reply =
    ((ticket : Ticket) × (row : Row) × (reply ≡ Tracked ticket row))
    ⊎ (((now : ℕ) × (ticket : Ticket) × (event ≡ Release now ticket) × (reply ≡ Released)) ⊎ ((tickets : List Held) → tickets_told event reply tickets ≡ tickets))

pub changes : (event : Event) (reply : Reply) → Changes event reply
changes event (Tracked ticket row) = inl (ticket, row, refl)
changes (Release now ticket) Released = inr (inl (now, ticket, refl, refl))
changes (Get now key) Released = inr (inr (λ ts. refl))
changes (Track now key) Released = inr (inr (λ ts. refl))
changes (Look now ticket) Released = inr (inr (λ ts. refl))
changes (Count now ticket act) Released = inr (inr (λ ts. refl))
changes (Put now key pairs) Released = inr (inr (λ ts. refl))
changes (Clear now key) Released = inr (inr (λ ts. refl))
changes (ClearWhere now choice) Released = inr (inr (λ ts. refl))
changes (ListRows now choice) Released = inr (inr (λ ts. refl))
changes (Expire now) Released = inr (inr (λ ts. refl))
changes event Absent = inr (inr (λ ts. refl))
changes event (ARow row) = inr (inr (λ ts. refl))
changes event NoRefs = inr (inr (λ ts. refl))
changes event Full = inr (inr (λ ts. refl))
changes event (Value value) = inr (inr (λ ts. refl))
changes event (NotSettable field) = inr (inr (λ ts. refl))
changes event (NotStored field) = inr (inr (λ ts. refl))
changes event (Written created) = inr (inr (λ ts. refl))
changes event InUse = inr (inr (λ ts. refl))
changes event Removed = inr (inr (λ ts. refl))
changes event (Cleared removed kept) = inr (inr (λ ts. refl))
changes event (Rows used rows) = inr (inr (λ ts. refl))
changes event (Expired count) = inr (inr (λ ts. refl))

-- ---- one that is given back

abbrev pub without : Ticket → List Held → List Held
without given tickets = filter (λ (held : Held). not (same_ticket given held.0)) tickets

-- whether it is this ticket, of this key
abbrev pub is_it : Ticket → Key → Held → Bool
is_it ticket key held = same_ticket ticket held.0 && same_key key held.1

self_number : (a b : ℕ) → (nat_eq a a && nat_eq b b) ≡ true
self_number a b = grind (arith, nat_tests)

pub same_self : (a : Ticket) → same_ticket a a ≡ true
same_self a = self_number a.number a.slot

pub same_exact : (a b : Ticket) → same_ticket a b ≡ true → a ≡ b
same_exact a b is =
    let number : a.number ≡ b.number = eq-from a.number b.number (and-left (nat_eq a.number b.number) (nat_eq a.slot b.slot) is) in
    let slot : a.slot ≡ b.slot = eq-from a.slot b.slot (and-right (nat_eq a.number b.number) (nat_eq a.slot b.slot) is) in
    λ i. record { number = number i; slot = slot i }

pub it_is : (ticket : Ticket) (key : Key) (held : Held) → is_it ticket key held ≡ true → held ≡ (ticket, key)
it_is ticket key held is =
    let a : ticket ≡ held.0 = same_exact ticket held.0 (and-left (same_ticket ticket held.0) (same_key key held.1) is) in
    let b : key ≡ held.1 = same_key-exact key held.1 (and-right (same_ticket ticket held.0) (same_key key held.1) is) in
    λ i. (sym a i, sym b i)

pub must : (b : Bool) → 1 ≤ cond b 1 0 → b ≡ true
must true one = refl
must false one = absurd (omega (arith, one))

-- where no other has its number, none is given back, and it isn't there
none_same : (ticket : Ticket) (tickets : List Held) (n : ℕ) → ticket.number ≡ n → AllByRecursion (λ m. nat_eq n m ≡ false) (map number_in tickets) → without ticket tickets ≡ tickets
none_same ticket [] n is all = refl
none_same ticket (held ∷ tickets) n is all =
    let no : same_ticket ticket held.0 ≡ false = ap (λ b. b && nat_eq ticket.slot held.0.slot) (ap (λ m. nat_eq m held.0.number) is ∙ all.0) in
    subst (λ b. cond (not b) (held ∷ without ticket tickets) (without ticket tickets) ≡ held ∷ tickets) (sym no) (ap (λ ts. held ∷ ts) (none_same ticket tickets n is all.1))

pub none_it : (ticket : Ticket) (key : Key) (tickets : List Held) (n : ℕ) → ticket.number ≡ n → AllByRecursion (λ m. nat_eq n m ≡ false) (map number_in tickets) → count_by (is_it ticket key) tickets ≡ 0
none_it ticket key [] n is all = refl
none_it ticket key (held ∷ tickets) n is all =
    let no : same_ticket ticket held.0 ≡ false = ap (λ b. b && nat_eq ticket.slot held.0.slot) (ap (λ m. nat_eq m held.0.number) is ∙ all.0) in
    let zero : ◌≡◌ {A = ℕ} (cond (is_it ticket key held) 1 0) 0 = ap (λ b. cond (b && same_key key held.1) 1 0) no in
    omega (arith, zero, none_it ticket key tickets n is all.1, sum_by-cons (λ (h : Held). cond (is_it ticket key h) 1 0) held tickets)

-- its weight is gone
pub weigh_without : (h : Held → ℕ) (ticket : Ticket) (key : Key) (tickets : List Held) → IsDistinct nat_eq (map number_in tickets) → 1 ≤ count_by (is_it ticket key) tickets → sum_by h (without ticket tickets) + h (ticket, key) ≡ sum_by h tickets
weigh_without h ticket key [] distinct there = absurd (omega (arith, there))
weigh_without h ticket key (held ∷ tickets) distinct there =
    elim (same_ticket ticket held.0) as (λ b. same_ticket ticket held.0 ≡ b → sum_by h (cond (not b) (held ∷ without ticket tickets) (without ticket tickets)) + h (ticket, key) ≡ sum_by h (held ∷ tickets)) [
      | true ↦ λ is.
          let number : ticket.number ≡ held.0.number = ap (λ (t : Ticket). t.number) (same_exact ticket held.0 is) in
          let apart = IsDistinct-head nat_eq held.0.number (map number_in tickets) distinct in
          let none : count_by (is_it ticket key) tickets ≡ 0 = none_it ticket key tickets held.0.number number apart in
          let one : 1 ≤ cond (is_it ticket key held) 1 0 = omega (arith, there, none, sum_by-cons (λ (x : Held). cond (is_it ticket key x) 1 0) held tickets) in
          let this : held ≡ (ticket, key) = it_is ticket key held (must (is_it ticket key held) one) in
          let rest : without ticket tickets ≡ tickets = none_same ticket tickets held.0.number number apart in
          omega (arith, ap h this, ap (sum_by h) rest, sum_by-cons h held tickets)
      | false ↦ λ differ.
          let zero : ◌≡◌ {A = ℕ} (cond (is_it ticket key held) 1 0) 0 = ap (λ b. cond (b && same_key key held.1) 1 0) differ in
          let later : 1 ≤ count_by (is_it ticket key) tickets = omega (arith, there, zero, sum_by-cons (λ (x : Held). cond (is_it ticket key x) 1 0) held tickets) in
          omega (arith, weigh_without h ticket key tickets (IsDistinct-tail nat_eq held.0.number (map number_in tickets) distinct) later, sum_by-cons h held tickets, sum_by-cons h held (without ticket tickets))
    ] refl

-- ---- a call

-- what a holder's references and all that are out become, they become alike
pub weigh_told : (event : Event) (reply : Reply) (mine tickets : List Held) (h : Held → ℕ) → Owns mine event reply → IsDistinct nat_eq (map number_in tickets) → ((g : Held → ℕ) → sum_by g mine ≤ sum_by g tickets)
    → sum_by h (tickets_told event reply mine) + sum_by h tickets ≡ sum_by h mine + sum_by h (tickets_told event reply tickets)
weigh_told event reply mine tickets h owns distinct some = ⊎_elim tracked (λ other. ⊎_elim released same other) (changes event reply)
  where
    Goal : Event → Reply → Type 0
    Goal e r = sum_by h (tickets_told e r mine) + sum_by h tickets ≡ sum_by h mine + sum_by h (tickets_told e r tickets)

    tracked : (ticket : Ticket) × (row : Row) × (reply ≡ Tracked ticket row) → Goal event reply
    tracked t = subst (Goal event) (sym t.2) (omega (arith, sum_by_push h mine (t.0, t.1.key), sum_by_push h tickets (t.0, t.1.key)))

    gone : (now : ℕ) (ticket : Ticket) → Owns mine (Release now ticket) Released → Goal (Release now ticket) Released
    gone now ticket own =
        let key : Key = own.0 in
        let yes : is_it ticket key (ticket, key) ≡ true = ap (λ b. b && same_key key key) (same_self ticket) ∙ same_key-refl key in
        let one : ◌≡◌ {A = ℕ} (cond (is_it ticket key (ticket, key)) 1 0) 1 = ap (λ (b : Bool). cond {A = ℕ} b 1 0) yes in
        let here : sum_by (λ (x : Held). cond (is_it ticket key x) 1 0) mine ≡ sum_by (λ (x : Held). cond (is_it ticket key x) 1 0) ((ticket, key) ∷ []) = ap (sum_by (λ (x : Held). cond (is_it ticket key x) 1 0)) own.1 in
        let it : ◌≡◌ {A = ℕ} (sum_by (λ (x : Held). cond (is_it ticket key x) 1 0) mine) 1 = omega (arith, here, one) in
        let there : 1 ≤ count_by (is_it ticket key) tickets = omega (arith, it, some (λ x. cond (is_it ticket key x) 1 0)) in
        let mine_now : ◌≡◌ {A = ℕ} (sum_by h (without ticket mine)) 0 = ap (λ ts. sum_by h (without ticket ts)) own.1 ∙ ap (λ b. sum_by h (cond (not b) ((ticket, key) ∷ []) [])) (same_self ticket) in
        let mine_was : sum_by h mine ≡ sum_by h ((ticket, key) ∷ []) = ap (sum_by h) own.1 in
        omega (arith, mine_now, mine_was, weigh_without h ticket key tickets distinct there)

    released : (now : ℕ) × (ticket : Ticket) × (event ≡ Release now ticket) × (reply ≡ Released) → Goal event reply
    released r = subst (Goal event) (sym r.3) (subst (λ e. Goal e Released) (sym r.2) (gone r.0 r.1 (subst (λ e. Owns mine e Released) r.2 (subst (Owns mine event) r.3 owns))))

    same : ((ts : List Held) → tickets_told event reply ts ≡ ts) → Goal event reply
    same s = omega (arith, ap (sum_by h) (s mine), ap (sum_by h) (s tickets))
