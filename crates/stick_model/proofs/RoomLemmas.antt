-- Where there is room for a record, there are at most as many as the size, and only the oldest untracked ones are gone.
use Rattle.std.proofs.Common.{◌≡◌, ℕ, ◌+◌, ◌≤◌, refl, sym, ◌∙◌, ap, subst, arith, List, [], ◌∷◌, length, filter, count_by, Bool, true, false, cond, not, ◌&&◌, ◌||◌, nat_lt, max, Some, None}
use Rattle.std.specs.List.{AllByRecursion, list_all}
use Rattle.std.proofs.lemmas.Bool.{false≢true, true≢false}
use Rattle.std.proofs.lemmas.Bool.Decides.{nat_tests}
use Rattle.std.proofs.lemmas.List.Sums.{sum_by-cons}
use Rattle.stick_model.specs.Key.{Key}
use Rattle.stick_model.specs.State.{is_tracked}
use Rattle.stick_model.specs.Laws.{RoomLaw}
use Rattle.stick_model.specs.Room.{count_older, is_purged, purged, purge_of, all_tracked, room_in}
use Rattle.stick_model.specs.declared.rows.Ticket.{Ticket}
use Rattle.stick_model.specs.declared.rows.Record.{Record}
use Rattle.stick_model.specs.declared.specification.Spec.{Spec}
use Rattle.stick_model.proofs.TestLemmas.{lt-to}
use Rattle.stick_model.proofs.EntryLemmas.{length-filter-le}

-- ---- the least of those that fail a test
module _ {E : Type 0} (t : E → Bool) (stamp : E → ℕ) where
  -- s is the stamp of one that fails the test, and none that fails it has a lower one
  record IsLeast (es : List E) (s : ℕ) : Type 0 where
    below : AllByRecursion (λ e. t e ≡ false → s ≤ stamp e) es
    there : (p : E → Bool) → ((e : E) → t e ≡ false → stamp e ≡ s → p e ≡ false) → length (filter p es) + 1 ≤ length es

  lower : (a b : ℕ) → a ≤ b → (es : List E) → AllByRecursion (λ e. t e ≡ false → b ≤ stamp e) es → AllByRecursion (λ e. t e ≡ false → a ≤ stamp e) es
  lower a b le [] h = tt
  lower a b le (e ∷ es) h = ((λ fails. let high : b ≤ stamp e = h.0 fails in omega arith), lower a b le es h.1)

  vacuous : (s : ℕ) (es : List E) → list_all t es ≡ true → AllByRecursion (λ e. t e ≡ false → s ≤ stamp e) es
  vacuous s [] h = tt
  vacuous s (e ∷ es) h = elim (t e) as (λ b. t e ≡ b → b && list_all t es ≡ true → AllByRecursion (λ e. t e ≡ false → s ≤ stamp e) (e ∷ es)) [
    | true ↦ λ is rest. ((λ fails. absurd (true≢false (sym is ∙ fails))), vacuous s es rest)
    | false ↦ λ _ none. absurd (false≢true none)
  ] refl h

  -- one more in front
  first_there : (e : E) (es : List E) → t e ≡ false → (p : E → Bool) → ((x : E) → t x ≡ false → stamp x ≡ stamp e → p x ≡ false) → length (filter p (e ∷ es)) + 1 ≤ length (e ∷ es)
  first_there e es fails p out =
      subst (λ b. length (cond b (e ∷ filter p es) (filter p es)) + 1 ≤ length (e ∷ es)) (sym (out e fails refl)) (omega (arith, length-filter-le p es))

  later_there : (e : E) (es : List E) (p : E → Bool) → length (filter p es) + 1 ≤ length es → length (filter p (e ∷ es)) + 1 ≤ length (e ∷ es)
  later_there e es p h = elim (p e) as (λ b. length (cond b (e ∷ filter p es) (filter p es)) + 1 ≤ length (e ∷ es)) [ true ↦ omega arith | false ↦ omega arith ]

  least : (es : List E) → list_all t es ≡ false → (s : ℕ) × IsLeast es s
  least [] h = absurd (true≢false h)
  least (e ∷ es) h =
      elim (t e) as (λ b. t e ≡ b → b && list_all t es ≡ false → (s : ℕ) × IsLeast (e ∷ es) s) [
        | true ↦ λ is rest. let some = least es rest in (some.0, record { below = ((λ fails. absurd (true≢false (sym is ∙ fails))), some.1.below); there = λ p out. later_there e es p (some.1.there p out) })
        | false ↦ λ is _. elim (list_all t es) as (λ b. list_all t es ≡ b → (s : ℕ) × IsLeast (e ∷ es) s) [
          | true ↦ λ all. (stamp e, record { below = ((λ _. omega arith), vacuous (stamp e) es all); there = first_there e es is })
          | false ↦ λ some_fail. let some = least es some_fail in nearer (nat_lt (stamp e) some.0) some refl is
        ] refl
      ] refl h
    where
      nearer : (b : Bool) (some : (s : ℕ) × IsLeast es s) → nat_lt (stamp e) some.0 ≡ b → t e ≡ false → (s : ℕ) × IsLeast (e ∷ es) s
      nearer true some lt is = (stamp e, record { below = ((λ _. omega arith), lower (stamp e) some.0 (grind (arith, nat_tests)) es some.1.below); there = first_there e es is })
      nearer false some lt is = (some.0, record { below = ((λ _. grind (arith, nat_tests)), some.1.below); there = λ p out. later_there e es p (some.1.there p out) })

  none_older : (es : List E) (s : ℕ) → AllByRecursion (λ e. t e ≡ false → s ≤ stamp e) es → ◌≡◌ {A = ℕ} (count_by (λ o. not (t o) && nat_lt (stamp o) s) es) 0
  none_older [] s h = refl
  none_older (e ∷ es) s h =
      let one : ◌≡◌ {A = ℕ} (cond (not (t e) && nat_lt (stamp e) s) 1 0) 0 = elim (t e) as (λ b. t e ≡ b → ◌≡◌ {A = ℕ} (cond (not b && nat_lt (stamp e) s) 1 0) 0) [ true ↦ λ _. refl | false ↦ λ is. not_lower (stamp e) s (h.0 is) ] refl in
      omega (arith, one, none_older es s h.1, sum_by-cons (λ o. cond (not (t o) && nat_lt (stamp o) s) 1 0) e es)
    where
      not_lower : (a b : ℕ) → b ≤ a → ◌≡◌ {A = ℕ} (cond (nat_lt a b) 1 0) 0
      not_lower a b le = grind (arith, nat_tests)

-- a purge of one or more leaves fewer, where some record is untracked
pub purged-fewer : (purge : ℕ) (tickets : List (Ticket × Key)) (records : List (Key × Record)) → 1 ≤ purge → all_tracked tickets records ≡ false → length (purged purge tickets records) + 1 ≤ length records
purged-fewer purge tickets records least_one h =
    let tracked : Key × Record → Bool = λ entry. is_tracked entry.0 tickets in
    let stamp : Key × Record → ℕ = λ entry. entry.1.stamp in
    let some = least tracked stamp records h in
    let none : ◌≡◌ {A = ℕ} (count_older tickets records some.0) 0 = none_older tracked stamp records some.0 some.1.below in
    some.1.there (λ entry. not (is_purged purge tickets records entry))
    (λ entry free is. ap not ((λ i. not (free i) && nat_lt (count_older tickets records (is i)) purge) ∙ ap (λ n. nat_lt n purge) none ∙ lt-to 0 purge (omega arith)))

-- ---- room in a full table
not_below : (a b : ℕ) → b ≤ a → nat_lt a b ≡ false
not_below a b le = grind (arith, nat_tests)

one_at_least : (n : ℕ) → 1 ≤ n → max 1 n ≡ n
one_at_least n some = omega arith

-- a full table that may purge is left without as many of the oldest as it is made with
pub room-purged : (spec : Spec) (tickets : List (Ticket × Key)) (records : List (Key × Record)) → 1 ≤ spec.purge → spec.size ≤ length records → spec.nopurge ≡ false → all_tracked tickets records ≡ false
    → room_in spec tickets records ≡ Some (purged spec.purge tickets records)
room-purged spec tickets records some full purges free =
    ap (λ b. cond b (Some records) (cond (spec.nopurge || all_tracked tickets records) None (Some (purged (purge_of spec) tickets records)))) (not_below (length records) spec.size full)
    ∙ ap (λ b. cond (b || all_tracked tickets records) None (Some (purged (purge_of spec) tickets records))) purges
    ∙ ap (λ b. cond b None (Some (purged (purge_of spec) tickets records))) free
    ∙ ap (λ n. Some (purged n tickets records)) (one_at_least spec.purge some)

pub room-law : RoomLaw
room-law spec tickets records limits full purges free = room-purged spec tickets records limits.purge.0 full purges free
