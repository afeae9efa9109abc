-- The limit law, of what is settled.
use Rattle.std.proofs.Common.{◌≡◌, inl, inr, ℕ, ◌≤◌, ◌<◌, refl, sym, ◌∙◌, ap, subst, arith, List, [], ◌∷◌, ◌++◌, Bool, true, false, cond, ◌&&◌, ◌||◌, nat_eq, count_by, map, filter, length}
use Rattle.std.specs.List.{list_any, AllByRecursion}
use Rattle.std.proofs.lemmas.Bool.{cases_lt, false≢true}
use Rattle.std.proofs.lemmas.Bool.Decides.{nat_tests}
use Rattle.std.proofs.lemmas.List.Elements.{recursion_from_All}
use Rattle.std.proofs.lemmas.List.Folds.{list_any-append}
use Rattle.std.proofs.lemmas.List.Sorted.{sum_by-IsPermutation}
use Rattle.std.proofs.lemmas.List.Sums.{sum_by-cons}
use Rattle.stick_model.specs.Key.{Key}
use Rattle.stick_model.specs.State.{same_ticket}
use Rattle.stick_model.specs.Legal.{IsLegal}
use Rattle.stick_model.specs.Run.{events_of}
use Rattle.stick_model.specs.Passed.{passing_look, passing_looks}
use Rattle.stick_model.specs.declared.rows.Ticket.{Ticket}
use Rattle.stick_model.specs.declared.replies.Reply.{Reply}
use Rattle.stick_model.proofs.TestLemmas.{eq-from}
use Rattle.stick_model.proofs.LegalLemmas.{empty_legal}
use Rattle.stick_model.proofs.RunLemmas.{run_from_stored}
use Rattle.shard_book.specs.declared.recorded.Recorded.{Recorded}
use Rattle.shard_book.specs.BookState.{Answered, BookState, answered, of_seat, stored_of}
use Rattle.shard_book.specs.SeatState.{RefState, SeatState, receipts_at}
use Rattle.shard_settling.specs.Settled.{IsCounted, IsWitnessed, receipt_of, shown, tickets_of, told_to}
use Rattle.shard_settling.specs.Laws.{SettledLimitLaw, has_passed, is_passing, passed_count}
use Rattle.shard_settling.proofs.FaultLemmas.{some_at}
use Rattle.shard_settling.proofs.PassedLemmas.{or-cases, passed_limit}

-- ---- what receipts say is so in the run

heard_left : (t : Ticket) (xs ys : List Ticket) → list_any (same_ticket t) xs ≡ true → list_any (same_ticket t) (xs ++ ys) ≡ true
heard_left t xs ys h = list_any-append (same_ticket t) xs ys ∙ ap (λ b. b || list_any (same_ticket t) ys) h

heard_right : (t : Ticket) (xs ys : List Ticket) → list_any (same_ticket t) ys ≡ true → list_any (same_ticket t) (xs ++ ys) ≡ true
heard_right t xs ys h = list_any-append (same_ticket t) xs ys ∙ ap (λ b. list_any (same_ticket t) xs || b) h ∙ or_true (list_any (same_ticket t) xs)
  where
    or_true : (b : Bool) → b || true ≡ true
    or_true true = refl
    or_true false = refl

told_heard : (key : Key) (limit : ℕ) (t : Ticket) (shard seat : ℕ) (calls : List Recorded) (replies : List Reply)
    → list_any (is_passing key limit t) (told_to shard seat calls replies) ≡ true → list_any (same_ticket t) (passing_looks key limit (events_of (stored_of calls)) replies) ≡ true
told_heard key limit t shard seat [] replies h = absurd (false≢true h)
told_heard key limit t shard seat (call ∷ calls) [] h = absurd (false≢true h)
told_heard key limit t shard seat (call ∷ calls) (reply ∷ replies) h =
    let one : Answered = record { call = call; reply = reply } in
    let here : List Ticket = passing_look key limit call.stored.event reply in
    let later : List Ticket = passing_looks key limit (events_of (stored_of calls)) replies in
    let rest : List Answered = of_seat seat (answered calls replies) in
    elim (nat_eq call.seat seat) as (λ b. list_any (is_passing key limit t) (map (receipt_of shard) (cond b (one ∷ rest) rest)) ≡ true → list_any (same_ticket t) (here ++ later) ≡ true) [
      | true ↦ λ told. elim (or-cases (list_any (same_ticket t) here) (list_any (is_passing key limit t) (map (receipt_of shard) rest)) told) [
        | inl now ↦ heard_left t here later now
        | inr then ↦ heard_right t here later (told_heard key limit t shard seat calls replies then)
      ]
      | false ↦ λ told. heard_right t here later (told_heard key limit t shard seat calls replies told)
    ] h

seats_heard : (key : Key) (limit : ℕ) (t : Ticket) (shard : ℕ) (seats : List SeatState) (calls : List Recorded) (replies : List Reply)
    → AllByRecursion (λ (seat : SeatState). told_to shard seat.number calls replies ≡ receipts_at shard seat.receipts) seats
    → list_any (λ (seat : SeatState). list_any (is_passing key limit t) (receipts_at shard seat.receipts)) seats ≡ true
    → list_any (same_ticket t) (passing_looks key limit (events_of (stored_of calls)) replies) ≡ true
seats_heard key limit t shard [] calls replies told h = absurd (false≢true h)
seats_heard key limit t shard (seat ∷ seats) calls replies told h =
    elim (or-cases (list_any (is_passing key limit t) (receipts_at shard seat.receipts)) (list_any (λ (other : SeatState). list_any (is_passing key limit t) (receipts_at shard other.receipts)) seats) h) [
      | inl own ↦ told_heard key limit t shard seat.number calls replies (ap (list_any (is_passing key limit t)) told.0 ∙ own)
      | inr others ↦ seats_heard key limit t shard seats calls replies told.1 others
    ]

-- ---- counts

-- of the references to a shard, no more pass a test than of their tickets
count_shown : (test : RefState → Bool) (f : Ticket → Bool) (shard : ℕ) (refs : List RefState) → ((one : RefState) → one.shard ≡ shard → test one ≡ true → f one.ticket ≡ true)
    → count_by (λ (one : RefState). nat_eq one.shard shard && test one) refs ≤ count_by f (shown shard refs)
count_shown test f shard [] h = omega arith
count_shown test f shard (one ∷ refs) h =
    let rest = count_shown test f shard refs h in
    let counts : RefState → ℕ = λ r. cond (nat_eq r.shard shard && test r) 1 0 in
    let both = sum_by-cons counts one refs in
    elim (nat_eq one.shard shard) as (λ b. nat_eq one.shard shard ≡ b → count_by (λ (r : RefState). nat_eq r.shard shard && test r) (one ∷ refs) ≤ count_by f (map (λ (r : RefState). r.ticket) (cond b (one ∷ filter (λ (r : RefState). nat_eq r.shard shard) refs) (filter (λ (r : RefState). nat_eq r.shard shard) refs)))) [
      | true ↦ λ is.
          let low : counts one ≤ cond (f one.ticket) 1 0 = subst (λ b. cond (b && test one) 1 0 ≤ cond (f one.ticket) 1 0) (sym is) (passing (test one) (f one.ticket) (h one (eq-from one.shard shard is))) in
          omega (arith, rest, both, low, sum_by-cons (λ (t : Ticket). cond (f t) 1 0) one.ticket (shown shard refs))
      | false ↦ λ is.
          let none : ◌≡◌ {A = ℕ} (counts one) 0 = ap (λ b. cond (b && test one) 1 0) is in
          omega (arith, rest, both, none)
    ] refl
  where
    passing : (a b : Bool) → (a ≡ true → b ≡ true) → cond a 1 0 ≤ cond b 1 0
    passing false b h = none b
      where
        none : (b : Bool) → 0 ≤ cond b 1 0
        none b = omega arith
    passing true b h = subst (λ c. 1 ≤ cond c 1 0) (sym (h refl)) (omega arith)

count_tickets : (f : Ticket → Bool) (tickets : List (Ticket × Key)) → count_by f (map (λ (held : Ticket × Key). held.0) tickets) ≡ count_by (λ (held : Ticket × Key). f held.0) tickets
count_tickets f [] = refl
count_tickets f (held ∷ tickets) =
    let rest = count_tickets f tickets in
    omega (arith, rest, sum_by-cons (λ (t : Ticket). cond (f t) 1 0) held.0 (map (λ (h : Ticket × Key). h.0) tickets), sum_by-cons (λ (h : Ticket × Key). cond (f h.0) 1 0) held tickets)

-- no reference is of a shard that the table doesn't have
none_other : (test : RefState → Bool) (shards shard : ℕ) (refs : List RefState) → shards ≤ shard → AllByRecursion (λ (one : RefState). one.shard < shards) refs → ◌≡◌ {A = ℕ} (count_by (λ (one : RefState). nat_eq one.shard shard && test one) refs) 0
none_other test shards shard [] other of = refl
none_other test shards shard (one ∷ refs) other of =
    let rest = none_other test shards shard refs other of.1 in
    let apart : nat_eq one.shard shard ≡ false = differs one.shard shard (omega (arith, of.0, other)) in
    let none : ◌≡◌ {A = ℕ} (cond (nat_eq one.shard shard && test one) 1 0) 0 = ap (λ b. cond (b && test one) 1 0) apart in
    omega (arith, rest, none, sum_by-cons (λ (r : RefState). cond (nat_eq r.shard shard && test r) 1 0) one refs)
  where
    differs : (a b : ℕ) → a < b → nat_eq a b ≡ false
    differs a b h = grind (arith, nat_tests)

-- ---- one shard

shard_limit : (seats : List SeatState) (refs : List RefState) (shard : ℕ) (book : BookState) (key : Key) (limit : ℕ) → IsCounted seats refs shard book → IsWitnessed seats shard book → passed_count shard key limit seats refs ≤ limit
shard_limit seats refs shard book key limit counted witnessed =
    let events = events_of (stored_of book.calls) in
    let looks : List Ticket = passing_looks key limit events witnessed.replies in
    let f : Ticket → Bool = λ t. list_any (same_ticket t) looks in
    let told = recursion_from_All (λ (seat : SeatState). told_to shard seat.number book.calls witnessed.replies ≡ receipts_at shard seat.receipts) seats witnessed.told in
    let legal = subst IsLegal (sym witnessed.base) (empty_legal book.base.spec) in
    let most : count_by (λ (held : Ticket × Key). f held.0) book.live.tickets ≤ limit = passed_limit key limit events witnessed.replies book.base book.live legal (run_from_stored book.base (stored_of book.calls) witnessed.replies book.live witnessed.run) in
    let shown_most = count_shown (has_passed key limit seats) f shard refs (λ one is passed. seats_heard key limit one.ticket shard seats book.calls witnessed.replies told (subst (λ at. list_any (λ (seat : SeatState). list_any (is_passing key limit one.ticket) (receipts_at at seat.receipts)) seats ≡ true) is passed)) in
    let same = sum_by-IsPermutation (λ (t : Ticket). cond (f t) 1 0) (tickets_of book.live) (shown shard refs) counted.tickets in
    omega (arith, most, shown_most, same, count_tickets f book.live.tickets)

pub settled_limit : SettledLimitLaw
settled_limit specs seats refs books shard key limit settled =
    elim (cases_lt shard (length books)) [
      | inl below ↦
          let found = some_at books shard below in
          let made = some_at specs shard (omega (arith, below, settled.shards)) in
          shard_limit seats refs shard found.0 key limit (settled.counted shard found.0 found.1) ((settled.recorded shard found.0 made.0 found.1 made.1).witnessed refl)
      | inr other ↦ omega (arith, none_other (has_passed key limit seats) (length books) shard refs other (recursion_from_All (λ (one : RefState). one.shard < length books) refs settled.no_other_refs))
    ]
