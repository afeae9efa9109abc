-- What a look rests on.
use Rattle.std.proofs.Common.{◌≡◌, refl, ap, arith, ℕ, ◌-◌, ◌≤◌, Bool, true, false, not, ◌||◌, nat_le, nat_lt, Option, Some, None, List, [], ◌∷◌, ◌⊎◌, inl, inr}
use Rattle.std.proofs.lemmas.Bool.{cases_Bool}
use Rattle.tcp_relay.specs.declared.sweep.Due.{Due}
use Rattle.tcp_relay.specs.declared.sweep.Sweep.{Sweep}
use Rattle.tcp_relay.specs.Sweeps.{GoesOn, LookLaw, Poll, SilenceLaw, WasPolled, behind_all, counted_behind, due_next, is_told, left_of, swept_at, told_of}

one_more : (start : ℕ) (polls : List Poll) (poll : Poll) (as_of missing : ℕ) → 2 ≤ missing → WasPolled start polls as_of missing → WasPolled start (poll ∷ polls) as_of (missing - 1)
one_more start polls poll as_of missing some was = record {
  later = poll ∷ was.later;
  one = was.one;
  earlier = was.earlier;
  order = ap (λ (l : List Poll). poll ∷ l) was.order;
  moment = was.moment;
  enough = grind (arith, was.enough, some);
}

first : (start : ℕ) (polls : List Poll) (poll : Poll) → WasPolled start (poll ∷ polls) (behind_all start (poll ∷ polls)).counted poll.all
first start polls poll = record { later = []; one = poll; earlier = polls; order = refl; moment = refl; enough = omega arith }

-- what is due is the moment of an earlier poll
abbrev IsDue : ℕ → List Poll → Option Due → Type 0
IsDue start polls None = Unit {0}
IsDue start polls (Some due) = WasPolled start polls due.as_of due.polls

next : (start : ℕ) (polls : List Poll) (poll : Poll) (due : Option Due) (swept moment : ℕ) → (behind_all start (poll ∷ polls)).counted ≡ moment
    → IsDue start (poll ∷ polls) due → IsDue start (poll ∷ polls) (due_next due swept moment poll.all)
next start polls poll (Some due) swept moment shown is = is
next start polls poll None swept moment shown is = elim (cases_Bool (nat_le 100 (moment - swept))) [
  | inl is_so ↦ rw is_so (rw shown at (first start polls poll))
  | inr not_so ↦ rw not_so tt
]

-- where a poll isn't told by, two polls at least were missing
some_more : (room : Bool) (polls : ℕ) → (room || nat_le polls 1) ≡ false → 2 ≤ polls
some_more true polls is = cc
some_more false polls is = grind (arith, is)

left : (start : ℕ) (polls : List Poll) (poll : Poll) (due : Option Due) → IsDue start polls due → IsDue start (poll ∷ polls) (left_of due poll.is_full)
left start polls poll None is = tt
left start polls poll (Some due) is = elim (cases_Bool (is_told due poll.is_full)) [
  | inl is_so ↦ rw is_so tt
  | inr not_so ↦ rw not_so (one_more start polls poll due.as_of due.polls (some_more (not poll.is_full) due.polls not_so) is)
]

shown : (start : ℕ) (polls : List Poll) (poll : Poll) → (behind_all start (poll ∷ polls)).counted ≡ counted_behind (behind_all start polls) poll.moment
unfolding behind_all
shown start polls poll = refl

due_of_all : (start : ℕ) (polls : List Poll) → IsDue start polls (behind_all start polls).due
unfolding behind_all
due_of_all start [] = tt
due_of_all start (poll ∷ polls) =
    let before = behind_all start polls in
    next start polls poll (left_of before.due poll.is_full) (swept_at (told_of before.due poll.is_full) before.swept) (counted_behind before poll.moment)
    (shown start polls poll) (left start polls poll before.due (due_of_all start polls))

-- it has room for more, or one poll at most was missing
by_room : (full : Bool) (polls : ℕ) → (not full || nat_le polls 1) ≡ true → (full ≡ false) ⊎ (polls ≤ 1)
by_room false polls is = inl refl
by_room true polls is = inr (grind (arith, is))

no_some : {a : ℕ} → None ≡ Some a → ⊥
no_some same = cc

some_is : {a b : ℕ} → Some a ≡ Some b → a ≡ b
some_is same = cc

told : (start : ℕ) (polls : List Poll) (due : Option Due) (full : Bool) (as_of : ℕ) → IsDue start polls due → told_of due full ≡ Some as_of
    → (missing : ℕ) × WasPolled start polls as_of missing × ((full ≡ false) ⊎ (missing ≤ 1))
told start polls None full as_of is tells = cc
told start polls (Some due) full as_of is tells = elim (cases_Bool (is_told due full)) [
  | inl is_so ↦ (due.polls, rw (← some_is (rw is_so at tells)) is, by_room full due.polls is_so)
  | inr not_so ↦ absurd (no_some (rw not_so at tells))
]

pub look_law : LookLaw
look_law start polls poll as_of looks = told start polls (behind_all start polls).due poll.is_full as_of (due_of_all start polls) looks

pub silence_law : SilenceLaw
silence_law sweep moment kept later = elim (cases_Bool (nat_lt 500 (moment - sweep.polled))) [
  | inl is_so ↦ record {
    least = rw is_so (grind (arith, is_so, kept, later));
    most = rw is_so (grind (arith, is_so, kept, later));
    behind = grind (arith);
  }
  | inr not_so ↦ record {
    least = rw not_so (grind (arith, not_so, kept, later));
    most = rw not_so (grind (arith, not_so, kept, later));
    behind = grind (arith);
  }
]
