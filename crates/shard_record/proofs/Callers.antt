-- Seats and the calls that they made.
use Rattle.std.proofs.Common.{◌≡◌, ℕ, ◌+◌, ◌≤◌, refl, sym, ap, subst, ◌∙◌, arith, Bool, true, false, cond, not, nat_eq, List, [], ◌∷◌, ◌++◌, filter, map, count_by}
use Rattle.std.proofs.lemmas.Bool.Decides.{nat_tests}
use Rattle.std.proofs.lemmas.List.Elements.{filter-append}
use Rattle.std.proofs.lemmas.List.Filters.{sum_by-filter_both}
use Rattle.std.proofs.lemmas.List.Sums.{sum_by-append, sum_by-cons}
use Rattle.stick_model.specs.declared.events.Event.{Event}
use Rattle.stick_model.specs.declared.replies.Reply.{Reply}
use Rattle.shard_record.specs.declared.view.Call.{Call}
use Rattle.shard_record.specs.declared.view.Caller.{Caller}
use Rattle.shard_record.specs.Calls.{call, calls_by}
use Rattle.shard_record.specs.Parts.{AreTheirs, caller, has_called, is_caller}

same_number : (n : ℕ) → nat_eq n n ≡ true
same_number n = grind (arith, nat_tests)

other_number : (a b : ℕ) → nat_eq a b ≡ false → nat_eq b a ≡ false
other_number a b is = grind (arith, nat_tests)

-- ---- the calls of a seat, one call later

module _ (seat : ℕ) (event : Event) (reply : Reply) where
  abbrev one : Call
  one = call seat event reply

  pub calls_own : (log : List Call) → calls_by seat (log ++ one ∷ []) ≡ calls_by seat log ++ one ∷ []
  calls_own log =
      filter-append (λ (c : Call). nat_eq c.seat seat) log (one ∷ [])
      ∙ ap (λ b. calls_by seat log ++ cond b (one ∷ []) []) (same_number seat)

  pub calls_other : (number : ℕ) (log : List Call) → nat_eq number seat ≡ false → calls_by number (log ++ one ∷ []) ≡ calls_by number log
  calls_other number log is =
      filter-append (λ (c : Call). nat_eq c.seat number) log (one ∷ [])
      ∙ (ap (λ b. calls_by number log ++ cond b (one ∷ []) []) (other_number number seat is) ∙ append-none (calls_by number log))
    where
      append-none : (xs : List Call) → xs ++ [] ≡ xs
      append-none [] = refl
      append-none (x ∷ xs) = ap (λ ys. x ∷ ys) (append-none xs)

  -- who has no such seat has the same calls
  pub theirs_other : (log : List Call) (callers : List Caller) → count_by (is_caller seat) callers ≡ 0 → AreTheirs log callers → AreTheirs (log ++ one ∷ []) callers
  theirs_other log [] none theirs = tt
  theirs_other log (c ∷ callers) none theirs =
      let cons = sum_by-cons (λ (x : Caller). cond (is_caller seat x) 1 0) c callers in
      let not_it : is_caller seat c ≡ false = must_not (is_caller seat c) (omega (arith, none, cons)) in
      (theirs.0 ∙ sym (calls_other c.number log (other_number seat c.number not_it)), theirs_other log callers (omega (arith, none, cons)) theirs.1)
    where
      must_not : (b : Bool) → cond b 1 0 ≤ 0 → b ≡ false
      must_not true le = absurd (omega (arith, le))
      must_not false le = refl

  -- who called has one call more
  pub theirs_own : (log mine : List Call) (callers : List Caller) → callers ≡ caller seat mine ∷ [] → AreTheirs log callers → AreTheirs (log ++ one ∷ []) (map (has_called one) callers)
  theirs_own log mine callers is theirs =
      let own : mine ≡ calls_by seat log = (subst (AreTheirs log) is theirs).0 in
      let later : AreTheirs (log ++ one ∷ []) (map (has_called one) (caller seat mine ∷ [])) = (ap (λ l. l ++ one ∷ []) own ∙ sym (calls_own log), tt) in
      subst (λ cs. AreTheirs (log ++ one ∷ []) (map (has_called one) cs)) (sym is) later

  -- it calls for the same seats
  pub count_called : (number : ℕ) (callers : List Caller) → count_by (is_caller number) (map (has_called one) callers) ≡ count_by (is_caller number) callers
  count_called number [] = refl
  count_called number (c ∷ callers) =
      omega (arith, count_called number callers, sum_by-cons (λ (x : Caller). cond (is_caller number x) 1 0) c callers, sum_by-cons (λ (x : Caller). cond (is_caller number x) 1 0) (has_called one c) (map (has_called one) callers))

-- ---- some of the seats

pub theirs_some : (p : Caller → Bool) (log : List Call) (callers : List Caller) → AreTheirs log callers → AreTheirs log (filter p callers)
theirs_some p log [] theirs = tt
theirs_some p log (c ∷ callers) theirs =
    elim (p c) as (λ b. AreTheirs log (cond b (c ∷ filter p callers) (filter p callers))) [ true ↦ (theirs.0, theirs_some p log callers theirs.1) | false ↦ theirs_some p log callers theirs.1 ]

pub theirs_both : (log : List Call) (callers others : List Caller) → AreTheirs log callers → AreTheirs log others → AreTheirs log (callers ++ others)
theirs_both log [] others theirs rest = rest
theirs_both log (c ∷ callers) others theirs rest = (theirs.0, theirs_both log callers others theirs.1 rest)

pub count_both : (number : ℕ) (callers others : List Caller) → count_by (is_caller number) (callers ++ others) ≡ count_by (is_caller number) callers + count_by (is_caller number) others
count_both number callers others = sum_by-append (λ (c : Caller). cond (is_caller number c) 1 0) callers others

pub count_split : (of number : ℕ) (callers : List Caller) → count_by (is_caller number) (filter (λ c. not (is_caller of c)) callers) + count_by (is_caller number) (filter (is_caller of) callers) ≡ count_by (is_caller number) callers
count_split of number callers =
    omega (arith, sum_by-filter_both (is_caller of) (λ c. not (is_caller of c)) (λ c. refl) (λ c. cond (is_caller number c) 1 0) callers)
