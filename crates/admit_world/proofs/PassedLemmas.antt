-- How many connections there are whose tickets have passed, and what a ticket's key is as it stays out.
use Rattle.std.proofs.Common.{◌≡◌, ℕ, suc, ◌+◌, ◌≤◌, refl, sym, ap, ◌∙◌, arith, Bool, true, false, cond, not, ◌&&◌, ◌||◌, List, [], ◌∷◌, ◌++◌, count_by, slice_get, Some, None, is_some}
use Rattle.std.specs.List.{list_any}
use Rattle.std.proofs.lemmas.Bool.{false≢true}
use Rattle.std.proofs.lemmas.List.Sums.{sum_by-cons}
use Rattle.stick_model.specs.Key.{Key}
use Rattle.stick_model.specs.State.{key_of, same_ticket}
use Rattle.stick_model.specs.declared.rows.Ticket.{Ticket}
use Rattle.admit_drive.proofs.TicketLemmas.{same_self, same_through, same_turned, times, without}

-- ---- each of some has its own of others

-- those that hold one thing, and those that don't
split_one : (a b : Bool) (part rest whole : ℕ) → whole ≤ part + rest → cond a 1 0 + whole ≤ cond (a && not b) 1 0 + part + (cond b 1 0 + rest)
split_one true true part rest whole less = omega (arith, less)
split_one true false part rest whole less = omega (arith, less)
split_one false true part rest whole less = omega (arith, less)
split_one false false part rest whole less = omega (arith, less)

count_split : {C : Type 0} (P H : C → Bool) (xs : List C) → count_by P xs ≤ count_by (λ c. P c && not (H c)) xs + count_by H xs
count_split P H [] = omega arith
count_split P H (x ∷ xs) =
    let one = split_one (P x) (H x) (count_by (λ c. P c && not (H c)) xs) (count_by H xs) (count_by P xs) (count_split P H xs) in
    omega (arith, one, sum_by-cons (λ c. cond (P c) 1 0) x xs, sum_by-cons (λ c. cond (P c && not (H c)) 1 0) x xs, sum_by-cons (λ c. cond (H c) 1 0) x xs)

none_counted : {C : Type 0} (P : C → Bool) (xs : List C) → ((i : ℕ) (c : C) → slice_get xs i ≡ Some c → P c ≡ true → ⊥) → count_by P xs ≡ 0
none_counted P [] never = refl
none_counted P (x ∷ xs) never =
    let zero_here : ◌≡◌ {A = ℕ} (cond (P x) 1 0) 0 = here (P x) refl in
    omega (arith, zero_here, none_counted P xs (λ i c at is. never (suc i) c at is), sum_by-cons (λ c. cond (P c) 1 0) x xs)
  where
    here : (b : Bool) → P x ≡ b → ◌≡◌ {A = ℕ} (cond b 1 0) 0
    here true is = absurd (never 0 x refl is)
    here false is = refl

-- where each that is counted has one of these, and no two have the same one, there are no more of them
pub count_matched : {C T : Type 0} (Q : T → Bool) (H : C → T → Bool) (xs : List C) (ts : List T) (P : C → Bool) → ((t : T) → count_by (λ c. H c t) xs ≤ 1)
    → ((i : ℕ) (c : C) → slice_get xs i ≡ Some c → P c ≡ true → list_any (λ t. Q t && H c t) ts ≡ true) → count_by P xs ≤ count_by Q ts
count_matched Q H xs [] P once has = omega (arith, none_counted P xs (λ i c at is. false≢true (has i c at is)))
count_matched {C} {T} Q H xs (t ∷ ts) P once has = by (Q t) refl (λ P others. count_matched Q H xs ts P once others)
  where
    later : (i : ℕ) (c : C) (h q : Bool) → H c t ≡ h → Q t ≡ q → slice_get xs i ≡ Some c → P c ≡ true → (q && h) ≡ false → list_any (λ u. Q u && H c u) ts ≡ true
    later i c h q h_is q_is at is apart =
        let both : (Q t && H c t) ≡ false = (λ k. q_is k && h_is k) ∙ apart in
        sym (ap (λ b. b || list_any (λ u. Q u && H c u) ts) both) ∙ has i c at is

    by : (q : Bool) → Q t ≡ q → ((P : C → Bool) → ((i : ℕ) (c : C) → slice_get xs i ≡ Some c → P c ≡ true → list_any (λ u. Q u && H c u) ts ≡ true) → count_by P xs ≤ count_by Q ts) → count_by P xs ≤ count_by Q (t ∷ ts)
    by true q_is fewer =
        let rest : count_by (λ c. P c && not (H c t)) xs ≤ count_by Q ts =
        fewer (λ c. P c && not (H c t)) (λ i c at is. left i c at (P c) (H c t) refl refl is) in
        let one : ◌≡◌ {A = ℕ} (cond (Q t) 1 0) 1 = ap (λ b. cond b 1 0) q_is in
        omega (arith, rest, one, once t, count_split P (λ c. H c t) xs, sum_by-cons (λ u. cond (Q u) 1 0) t ts)
      where
        left : (i : ℕ) (c : C) → slice_get xs i ≡ Some c → (p h : Bool) → P c ≡ p → H c t ≡ h → (p && not h) ≡ true → list_any (λ u. Q u && H c u) ts ≡ true
        left i c at true false p_is h_is is = later i c false true h_is q_is at p_is refl
        left i c at true true p_is h_is is = absurd (false≢true is)
        left i c at false h p_is h_is is = absurd (false≢true is)
    by false q_is fewer =
        let none : ◌≡◌ {A = ℕ} (cond (Q t) 1 0) 0 = ap (λ b. cond b 1 0) q_is in
        let rest : count_by P xs ≤ count_by Q ts = fewer P (λ i c at is. later i c (H c t) false refl q_is at is refl) in
        omega (arith, rest, none, sum_by-cons (λ u. cond (Q u) 1 0) t ts)

-- ---- the key of a ticket that stays out

pub key_push : (ticket given : Ticket) (key other : Key) (tickets : List (Ticket × Key)) → key_of ticket tickets ≡ Some key → key_of ticket (tickets ++ (given, other) ∷ []) ≡ Some key
key_push ticket given key other [] is = cc
key_push ticket given key other (held ∷ tickets) is =
    elim (same_ticket ticket held.0) as (λ b. cond b (Some held.1) (key_of ticket tickets) ≡ Some key → cond b (Some held.1) (key_of ticket (tickets ++ (given, other) ∷ [])) ≡ Some key) [
      | true ↦ λ at. at
      | false ↦ λ at. key_push ticket given key other tickets at
    ] is

-- a ticket that wasn't out has the key that it comes with
pub key_new : (ticket : Ticket) (key : Key) (tickets : List (Ticket × Key)) → times ticket tickets ≡ 0 → key_of ticket (tickets ++ (ticket, key) ∷ []) ≡ Some key
key_new ticket key [] none = ap (λ b. cond b (Some key) None) (same_self ticket)
key_new ticket key (held ∷ tickets) none =
    elim (same_ticket ticket held.0) as (λ b. same_ticket ticket held.0 ≡ b → cond b (Some held.1) (key_of ticket (tickets ++ (ticket, key) ∷ [])) ≡ Some key) [
      | true ↦ λ is.
          let one : ◌≡◌ {A = ℕ} (cond (same_ticket ticket held.0) 1 0) 1 = ap (λ b. cond b 1 0) is in
          absurd (omega (arith, one, none, sum_by-cons (λ (h : Ticket × Key). cond (same_ticket ticket h.0) 1 0) held tickets))
      | false ↦ λ differ.
          key_new ticket key tickets (omega (arith, none, sum_by-cons (λ (h : Ticket × Key). cond (same_ticket ticket h.0) 1 0) held tickets))
    ] refl

-- of the tickets but one that was given back, it is none of theirs, or as before
pub key_without : (ticket given : Ticket) (tickets : List (Ticket × Key)) (key : Key) → key_of ticket tickets ≡ Some key → is_some (key_of ticket (without given tickets)) ≡ true → key_of ticket (without given tickets) ≡ Some key
key_without ticket given tickets key is out = differ (same_ticket ticket given) refl
  where
    gone : (tickets : List (Ticket × Key)) → same_ticket ticket given ≡ true → key_of ticket (without given tickets) ≡ None
    gone [] same = refl
    gone (held ∷ tickets) same =
        elim (same_ticket given held.0) as (λ b. same_ticket given held.0 ≡ b → key_of ticket (cond (not b) (held ∷ without given tickets) (without given tickets)) ≡ None) [
          | true ↦ λ here. gone tickets same
          | false ↦ λ there. elim (same_ticket ticket held.0) as (λ c. same_ticket ticket held.0 ≡ c → cond c (Some held.1) (key_of ticket (without given tickets)) ≡ None) [
            | true ↦ λ one. absurd (false≢true (sym there ∙ same_through given held.0 ticket (same_turned ticket given same) (same_turned ticket held.0 one)))
            | false ↦ λ other. gone tickets same
          ] refl
        ] refl

    kept : (tickets : List (Ticket × Key)) → same_ticket ticket given ≡ false → key_of ticket (without given tickets) ≡ key_of ticket tickets
    kept [] apart = refl
    kept (held ∷ tickets) apart =
        elim (same_ticket given held.0) as (λ b. same_ticket given held.0 ≡ b → key_of ticket (cond (not b) (held ∷ without given tickets) (without given tickets)) ≡ key_of ticket (held ∷ tickets)) [
          | true ↦ λ here. elim (same_ticket ticket held.0) as (λ c. same_ticket ticket held.0 ≡ c → key_of ticket (without given tickets) ≡ cond c (Some held.1) (key_of ticket tickets)) [
            | true ↦ λ one. absurd (false≢true (sym apart ∙ same_through ticket given held.0 one here))
            | false ↦ λ other. kept tickets apart
          ] refl
          | false ↦ λ there. ap (λ o. cond (same_ticket ticket held.0) (Some held.1) o) (kept tickets apart)
        ] refl

    differ : (b : Bool) → same_ticket ticket given ≡ b → key_of ticket (without given tickets) ≡ Some key
    differ true same = absurd (false≢true (ap is_some (sym (gone tickets same)) ∙ out))
    differ false apart = kept tickets apart ∙ is
