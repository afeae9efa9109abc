-- Two schedules joined are one, then the other.
use Rattle.std.proofs.Common.{◌≡◌, ℕ, ◌+◌, refl, sym, subst, arith, cond, List, [], ◌∷◌, ◌++◌}
use Rattle.admit_world.specs.World.{Elements, WorldState}
use Rattle.admit_world.specs.Schedules.{ElementsOn, SchedulesJoinLaw}
use Rattle.admit_world.specs.declared.visit.Visit.{Visit}

summed : (one more first rest all : ℕ) → all ≡ one + more → more ≡ first + rest → all ≡ one + first + rest
summed one more first rest all is parts = omega (arith, is, parts)

added : (one more rest all : ℕ) → all ≡ one + more → all + rest ≡ one + (more + rest)
added one more rest all is = omega (arith, is)

none : (count rest : ℕ) → count ≡ 0 → rest ≡ count + rest
none count rest is = omega (arith, is)

parted : (visits : List Visit) (old : WorldState) (schedule later : List (ℕ × ℕ)) (new : WorldState) (count : ℕ) → Elements visits old (schedule ++ later) new count → ElementsOn visits old schedule later new count
parted visits old [] later new count goes = record { middle = old; first = 0; rest = count; before = (refl, refl); after = goes; counted = omega arith }
parted visits old (element ∷ schedule) later new count goes =
    let on : ElementsOn visits goes.0 schedule later new goes.2 = parted visits goes.0 schedule later new goes.2 goes.4 in
    record {
      middle = on.middle;
      first = cond goes.1 1 0 + on.first;
      rest = on.rest;
      before = (goes.0, goes.1, on.first, goes.3, on.before, refl);
      after = on.after;
      counted = summed (cond goes.1 1 0) goes.2 on.first on.rest count goes.5 on.counted;
    }

joined : (visits : List Visit) (old : WorldState) (schedule later : List (ℕ × ℕ)) (middle new : WorldState) (first rest : ℕ) → Elements visits old schedule middle first → Elements visits middle later new rest
    → Elements visits old (schedule ++ later) new (first + rest)
joined visits old [] later middle new first rest goes more =
    subst (λ n. Elements visits old later new n) (none first rest goes.1) (subst (λ (w : WorldState). Elements visits w later new rest) goes.0 more)
joined visits old (element ∷ schedule) later middle new first rest goes more =
    (goes.0, goes.1, goes.2 + rest, goes.3, joined visits goes.0 schedule later middle new goes.2 rest goes.4 more, added (cond goes.1 1 0) goes.2 rest first goes.5)

pub schedules-join : SchedulesJoinLaw
schedules-join visits old schedule later new count = (
  λ goes. parted visits old schedule later new count goes,
  λ on. subst (λ n. Elements visits old (schedule ++ later) new n) (sym on.counted) (joined visits old schedule later on.middle new on.first on.rest on.before on.after),
)
