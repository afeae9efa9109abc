-- A call more keeps a seat.
use Rattle.std.proofs.Common.{◌≡◌, ◌≢◌, ◌⊎◌, ℕ, ◌+◌, ◌<◌, ◌≤◌, ◌^◌, nat_eq, cond, Bool, true, false, List, [], ◌∷◌, ◌++◌, length, get_or, set, replicate, sym, ap, ◌∙◌, arith, ⊎_elim, inl, inr}
use Rattle.std.proofs.lemmas.Bool.{cases_lt}
use Rattle.std.proofs.lemmas.Bool.Decides.{eqb_tells, nat_tests}
use Rattle.std.proofs.lemmas.Grind.{get_or-set_at}
use Rattle.std.proofs.lemmas.List.{get_or-replicate, get_or_past, get_or-set_other, length-append, length-replicate, length-set}
use Rattle.std.proofs.lemmas.List.Elements.{filter-append}
use lib.Dec.{eqb}
use Rattle.stick_model.specs.declared.events.Event.{Event}
use Rattle.stick_model.specs.declared.replies.Reply.{Reply}
use Rattle.shard_book.specs.declared.receipt.Receipt.{Receipt}
use Rattle.shard_book.specs.SeatState.{SeatState, IsSeat, after_call, calls_of, fresh, kept_receipts, receipt, receipts_at, seen_of}

-- ---- receipts of a shard

receipts_at-push : (shard : ℕ) (receipts : List Receipt) (one : Receipt) → receipts_at shard (receipts ++ one ∷ []) ≡ receipts_at shard receipts ++ receipts_at shard (one ∷ [])
receipts_at-push shard receipts one = filter-append (λ (r : Receipt). nat_eq r.shard shard) receipts (one ∷ [])

own-test : (n : ℕ) → nat_eq n n ≡ true
own-test n = grind (arith, nat_tests)

other-test : (n m : ℕ) → m ≢ n → nat_eq n m ≡ false
other-test n m differs = grind (arith, nat_tests)

receipts_at-one : (shard other : ℕ) (event : Event) (reply : Reply) (b : Bool) → nat_eq shard other ≡ b → receipts_at other (receipt shard event reply ∷ []) ≡ cond b (receipt shard event reply ∷ []) []
receipts_at-one shard other event reply b is = ap (λ t. cond t (receipt shard event reply ∷ []) []) is

kept-is : (keeps : Bool) (receipts : List Receipt) (shard : ℕ) (event : Event) (reply : Reply) → keeps ≡ true → kept_receipts keeps receipts shard event reply ≡ receipts ++ receipt shard event reply ∷ []
kept-is keeps receipts shard event reply is = ap (λ b. kept_receipts b receipts shard event reply) is

-- one receipt more, of this shard
receipts-own : (receipts : List Receipt) (shard : ℕ) (event : Event) (reply : Reply) → length (receipts_at shard (receipts ++ receipt shard event reply ∷ [])) ≡ length (receipts_at shard receipts) + 1
receipts-own receipts shard event reply =
    let one : receipts_at shard (receipt shard event reply ∷ []) ≡ receipt shard event reply ∷ [] = receipts_at-one shard shard event reply true (own-test shard) in
    ap length (receipts_at-push shard receipts (receipt shard event reply)) ∙ length-append (receipts_at shard receipts) (receipts_at shard (receipt shard event reply ∷ [])) ∙ ap (λ rs. length (receipts_at shard receipts) + length rs) one

-- and of another
receipts-other : (receipts : List Receipt) (shard other : ℕ) (event : Event) (reply : Reply) → other ≢ shard → length (receipts_at other (receipts ++ receipt shard event reply ∷ [])) ≡ length (receipts_at other receipts)
receipts-other receipts shard other event reply differs =
    let none : receipts_at other (receipt shard event reply ∷ []) ≡ [] = receipts_at-one shard other event reply false (other-test shard other differs) in
    let all : length (receipts_at other (receipts ++ receipt shard event reply ∷ [])) ≡ length (receipts_at other receipts) + 0 =
    ap length (receipts_at-push other receipts (receipt shard event reply)) ∙ length-append (receipts_at other receipts) (receipts_at other (receipt shard event reply ∷ [])) ∙ ap (λ rs. length (receipts_at other receipts) + length rs) none in
    omega arith

-- ---- a seat as it begins

zero_at : (n i : ℕ) → ◌≡◌ {A = ℕ} (get_or (replicate n 0) i 0) 0
zero_at n i = ⊎_elim (λ (below : i < n). get_or-replicate n i 0 0 below) (λ (past : n ≤ i). get_or_past (replicate n 0) i 0 (rw length-replicate past)) (cases_lt i n)

pub fresh_is_seat : (number : ℕ) (keeps : Bool) → IsSeat (fresh number keeps)
fresh_is_seat number keeps = record {
  calls = length-replicate {A = ℕ} 64 0;
  seen = length-replicate {A = ℕ} 64 0;
  within = λ i. let zero_there : ◌≡◌ {A = ℕ} (get_or (replicate 64 0) i 0) 0 = zero_at 64 i in omega arith;
  limit = λ i. let zero_there : ◌≡◌ {A = ℕ} (get_or (replicate 64 0) i 0) 0 = zero_at 64 i in omega arith;
  kept = λ kept i. sym (zero_at 64 i);
}

-- as the code makes it
pub made_is_seat : (number : ℕ) (keeps : Bool) (receipts : List Receipt) → receipts ≡ [] → IsSeat (record (fresh number keeps) { receipts = receipts })
made_is_seat number keeps receipts none = rw none (fresh_is_seat number keeps)

-- ---- a call more

-- what is at a place after a write
written : (xs : List ℕ) (at i value : ℕ) → at < length xs → (i ≡ at) × (get_or (set xs at value) i 0 ≡ value) ⊎ (i ≢ at) × (get_or (set xs at value) i 0 ≡ get_or xs i 0)
written xs at i value below =
    ⊎_elim
    (λ (is : (eqb i at ≡ true) × (i ≡ at)). inl (is.1, get_or-set_at xs at i value 0 is.1 below))
    (λ (is : (eqb i at ≡ false) × (i ≢ at)). inr (is.1, get_or-set_other xs at i value 0 is.1))
    (eqb_tells i at)

-- the receipts of a shard are counted
kept-called : (seat : SeatState) (shard number i : ℕ) (event : Event) (reply : Reply) → IsSeat seat → shard < 64 → seat.keeps ≡ true
    → length (receipts_at i (kept_receipts seat.keeps seat.receipts shard event reply)) ≡ calls_of (after_call seat shard number event reply) i
kept-called seat shard number i event reply is below keeps =
    let in_calls : shard < length seat.calls = omega (arith, is.calls) in
    let more : length (receipts_at i (kept_receipts seat.keeps seat.receipts shard event reply)) ≡ length (receipts_at i (seat.receipts ++ receipt shard event reply ∷ [])) =
    ap (λ rs. length (receipts_at i rs)) (kept-is seat.keeps seat.receipts shard event reply keeps) in
    ⊎_elim
    (λ (own : (i ≡ shard) × (get_or (set seat.calls shard (calls_of seat shard + 1)) i 0 ≡ calls_of seat shard + 1)).
    let counted : length (receipts_at shard seat.receipts) ≡ calls_of seat shard = is.kept keeps shard in
    let one : length (receipts_at i (seat.receipts ++ receipt shard event reply ∷ [])) ≡ length (receipts_at shard seat.receipts) + 1 =
    ap (λ n. length (receipts_at n (seat.receipts ++ receipt shard event reply ∷ []))) own.0 ∙ receipts-own seat.receipts shard event reply in
    more ∙ one ∙ ap (λ n. n + 1) counted ∙ sym own.1)
    (λ (other : (i ≢ shard) × (get_or (set seat.calls shard (calls_of seat shard + 1)) i 0 ≡ calls_of seat i)).
    more ∙ receipts-other seat.receipts shard i event reply other.0 ∙ is.kept keeps i ∙ sym other.1)
    (written seat.calls shard i (calls_of seat shard + 1) in_calls)

within-called : (seat : SeatState) (shard number i : ℕ) → IsSeat seat → shard < 64 → seen_of seat shard < number → number ≤ 2 ^ 62
    → (get_or (set seat.calls shard (calls_of seat shard + 1)) i 0 ≤ get_or (set seat.seen shard number) i 0) × (get_or (set seat.seen shard number) i 0 ≤ 2 ^ 62)
within-called seat shard number i is below later limit =
    let in_calls : shard < length seat.calls = omega (arith, is.calls) in
    let in_seen : shard < length seat.seen = omega (arith, is.seen) in
    let here : calls_of seat shard ≤ seen_of seat shard = is.within shard in
    let there : calls_of seat i ≤ seen_of seat i = is.within i in
    let most : seen_of seat i ≤ 2 ^ 62 = is.limit i in
    ⊎_elim
    (λ (own : (i ≡ shard) × (get_or (set seat.calls shard (calls_of seat shard + 1)) i 0 ≡ calls_of seat shard + 1)).
    let seen : get_or (set seat.seen shard number) i 0 ≡ number = get_or-set_at seat.seen shard i number 0 own.0 in_seen in
    (omega arith, omega arith))
    (λ (other : (i ≢ shard) × (get_or (set seat.calls shard (calls_of seat shard + 1)) i 0 ≡ calls_of seat i)).
    let seen : get_or (set seat.seen shard number) i 0 ≡ seen_of seat i = get_or-set_other seat.seen shard i number 0 other.0 in
    (omega arith, omega arith))
    (written seat.calls shard i (calls_of seat shard + 1) in_calls)

pub called_is_seat : (seat : SeatState) (shard number : ℕ) (event : Event) (reply : Reply)
    → IsSeat seat → shard < 64 → seen_of seat shard < number → number ≤ 2 ^ 62 → IsSeat (after_call seat shard number event reply)
called_is_seat seat shard number event reply is below later limit = record {
  calls = length-set seat.calls shard (calls_of seat shard + 1) ∙ is.calls;
  seen = length-set seat.seen shard number ∙ is.seen;
  within = λ i. (within-called seat shard number i is below later limit).0;
  limit = λ i. (within-called seat shard number i is below later limit).1;
  kept = λ keeps i. kept-called seat shard number i event reply is below keeps;
}
