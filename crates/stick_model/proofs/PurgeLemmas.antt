-- A purge takes the oldest untracked records.
use Rattle.std.proofs.Common.{◌≡◌, ℕ, ◌+◌, ◌-◌, ◌≤◌, ◌<◌, refl, sym, ◌∙◌, ap, arith, List, [], ◌∷◌, length, map, filter, count_by, get_or, zero, suc, Bool, true, false, cond, not, ◌&&◌, ◌||◌, nat_eq, nat_lt, min, ◌⊎◌, inl, inr}
use Rattle.std.specs.Prelude.{Contains}
use Rattle.std.specs.List.{AllByRecursion, IsDistinct, list_any}
use Rattle.std.proofs.lemmas.Bool.{false≢true, true≢false}
use Rattle.std.proofs.lemmas.Bool.Decides.{nat_tests}
use Rattle.std.proofs.lemmas.List.Elements.{All-contains_itself, recursion_from_All}
use Rattle.std.proofs.lemmas.List.Filters.{length-filter_both}
use Rattle.std.proofs.lemmas.List.Sums.{sum_by-cons, length-filter}
use Rattle.std.proofs.lemmas.List.{length-map}
use Rattle.std.proofs.lemmas.Map.Steps.{length-le_from_distinct_below}
use Rattle.stick_model.specs.Key.{Key}
use Rattle.stick_model.specs.State.{is_tracked}
use Rattle.stick_model.specs.Room.{is_purged}
use Rattle.stick_model.specs.Legal.{stamp_in}
use Rattle.stick_model.specs.Laws.{PurgeLaw}
use Rattle.stick_model.specs.declared.rows.Record.{Record}
use Rattle.stick_model.proofs.TestLemmas.{and-left, and-right, lt-from, lt-to, differ-above, differ-below}
use Rattle.stick_model.proofs.RoomLemmas.{purged-fewer}

count-le : {E : Type 0} (p q : E → Bool) → ((e : E) → cond (p e) 1 0 ≤ cond (q e) 1 0) → (es : List E) → count_by p es ≤ count_by q es
count-le p q le [] = omega arith
count-le p q le (e ∷ es) = omega (arith, le e, count-le p q le es, sum_by-cons (λ y. cond (p y) 1 0) e es, sum_by-cons (λ y. cond (q y) 1 0) e es)

-- of a list that has x, more pass a test that x passes than one that x fails, where none passes only the other
count-more-at : {E : Type 0} (p q : E → Bool) → ((e : E) → cond (p e) 1 0 ≤ cond (q e) 1 0) → (es : List E) (k : ℕ) (x : E) → k < length es → get_or es k x ≡ x → p x ≡ false → q x ≡ true → count_by p es + 1 ≤ count_by q es
count-more-at p q le [] k x below is fails passes = absurd (omega arith)
count-more-at p q le (e ∷ es) zero x below is fails passes =
    let none : ◌≡◌ {A = ℕ} (cond (p e) 1 0) 0 = ap (λ b. cond b 1 0) (ap p is ∙ fails) in
    let one : ◌≡◌ {A = ℕ} (cond (q e) 1 0) 1 = ap (λ b. cond b 1 0) (ap q is ∙ passes) in
    omega (arith, none, one, count-le p q le es, sum_by-cons (λ y. cond (p y) 1 0) e es, sum_by-cons (λ y. cond (q y) 1 0) e es)
count-more-at p q le (e ∷ es) (suc k) x below is fails passes =
    omega (arith, le e, count-more-at p q le es k x (omega arith) is fails passes, sum_by-cons (λ y. cond (p y) 1 0) e es, sum_by-cons (λ y. cond (q y) 1 0) e es)

any-below : (n q : ℕ) (xs : List ℕ) → AllByRecursion (λ x. x < n) xs → list_any (nat_eq q) xs ≡ true → q < n
any-below n q [] below found = absurd (false≢true found)
any-below n q (x ∷ xs) below found =
    elim (nat_eq q x) as (λ b. nat_eq q x ≡ b → b || list_any (nat_eq q) xs ≡ true → q < n) [
      | true ↦ λ is _. let same : q ≡ x = grind (arith, nat_tests) in omega (arith, below.0)
      | false ↦ λ _ rest. any-below n q xs below.1 rest
    ] refl found

either : (a b : ℕ) → nat_eq a b ≡ false → (a < b) ⊎ (b < a)
either a b h = elim (nat_lt a b) as (λ c. nat_lt a b ≡ c → (a < b) ⊎ (b < a)) [ true ↦ λ lt. inl (lt-from a b lt) | false ↦ λ ge. inr (grind (arith, nat_tests)) ] refl

-- ---- how many of those that fail a test have a lower stamp
module _ {E : Type 0} (t : E → Bool) (stamp : E → ℕ) (all : List E) where
  abbrev older_than : ℕ → E → Bool
  older_than s e = not (t e) && nat_lt (stamp e) s

  abbrev rank : ℕ → ℕ
  rank s = count_by (older_than s) all

  older-le : (a b : ℕ) → a ≤ b → (e : E) → cond (older_than a e) 1 0 ≤ cond (older_than b e) 1 0
  older-le a b le e = elim (t e) as (λ c. cond (not c && nat_lt (stamp e) a) 1 0 ≤ cond (not c && nat_lt (stamp e) b) 1 0) [ true ↦ omega arith | false ↦ one (stamp e) a b le ]
    where
      one : (s a b : ℕ) → a ≤ b → cond (nat_lt s a) 1 0 ≤ cond (nat_lt s b) 1 0
      one s a b le = grind (arith, nat_tests)

  -- one that fails the test has a lower rank than each higher stamp
  Rises : E → Type 0
  Rises e = (b : ℕ) → t e ≡ false → stamp e < b → rank (stamp e) + 1 ≤ rank b

  rises : (e : E) → Contains all e → Rises e
  unfolding Rises
  rises e there b fails lt =
      count-more-at (older_than (stamp e)) (older_than b) (older-le (stamp e) b (omega arith)) all there.0 e there.1 there.2
      (ap (λ c. not c && nat_lt (stamp e) (stamp e)) fails ∙ not_below (stamp e)) (ap (λ c. not c && nat_lt (stamp e) b) fails ∙ lt-to (stamp e) b lt)
    where
      not_below : (a : ℕ) → nat_lt a a ≡ false
      not_below a = grind (arith, nat_tests)

  all-rise : AllByRecursion Rises all
  all-rise = recursion_from_All Rises all (λ k d below. rises (get_or all k d) (All-contains_itself all k d below))

  abbrev free_count : ℕ
  free_count = count_by (λ e. not (t e)) all

  -- fewer are before one that fails the test than fail it
  Low : E → Type 0
  Low e = t e ≡ false → rank (stamp e) + 1 ≤ free_count

  low : (e : E) → Contains all e → Low e
  unfolding Low
  low e there fails =
      count-more-at (older_than (stamp e)) (λ x. not (t x)) (λ x. older_free (t x) (nat_lt (stamp x) (stamp e))) all there.0 e there.1 there.2
      (ap (λ c. not c && nat_lt (stamp e) (stamp e)) fails ∙ not_below (stamp e)) (ap not fails)
    where
      not_below : (a : ℕ) → nat_lt a a ≡ false
      not_below a = grind (arith, nat_tests)

      older_free : (b c : Bool) → cond (not b && c) 1 0 ≤ cond (not b) 1 0
      older_free true c = omega arith
      older_free false true = omega arith
      older_free false false = omega arith

  all-low : AllByRecursion Low all
  all-low = recursion_from_All Low all (λ k d below. low (get_or all k d) (All-contains_itself all k d below))

  -- those whose rank is below a number
  module _ (purge : ℕ) where
    abbrev goes : E → Bool
    goes e = not (t e) && nat_lt (rank (stamp e)) purge

    fails-from : (e : E) → goes e ≡ true → t e ≡ false
    fails-from e h = go (t e) (and-left (not (t e)) (nat_lt (rank (stamp e)) purge) h)
      where
        go : (b : Bool) → not b ≡ true → b ≡ false
        go true h = absurd (false≢true h)
        go false h = refl

    ranked : (e : E) → goes e ≡ true → rank (stamp e) < purge
    ranked e h = lt-from (rank (stamp e)) purge (and-right (not (t e)) (nat_lt (rank (stamp e)) purge) h)

    ranks-below : (es : List E) → AllByRecursion (λ m. m < purge) (map (λ e. rank (stamp e)) (filter goes es))
    ranks-below [] = tt
    ranks-below (e ∷ es) = elim (goes e) as (λ b. goes e ≡ b → AllByRecursion (λ m. m < purge) (map (λ e. rank (stamp e)) (cond b (e ∷ filter goes es) (filter goes es)))) [
      | true ↦ λ is. (ranked e is, ranks-below es)
      | false ↦ λ _. ranks-below es
    ] refl

    apart : (e : E) (es : List E) → t e ≡ false → Rises e → AllByRecursion Rises es → AllByRecursion (λ s. nat_eq (stamp e) s ≡ false) (map stamp es) → AllByRecursion (λ m. nat_eq (rank (stamp e)) m ≡ false) (map (λ e. rank (stamp e)) (filter goes es))
    unfolding Rises
    apart e [] fails rise later differ = tt
    apart e (x ∷ es) fails rise later differ = elim (goes x) as (λ b. goes x ≡ b → AllByRecursion (λ m. nat_eq (rank (stamp e)) m ≡ false) (map (λ e. rank (stamp e)) (cond b (x ∷ filter goes es) (filter goes es)))) [
      | true ↦ λ is. (
        elim (either (stamp e) (stamp x) differ.0) [
          | inl lt ↦ differ-above (rank (stamp e)) (rank (stamp x)) (omega (arith, rise (stamp x) fails lt))
          | inr gt ↦ differ-below (rank (stamp e)) (rank (stamp x)) (omega (arith, later.0 (stamp e) (fails-from x is) gt))
        ],
        apart e es fails rise later.1 differ.1,
      )
      | false ↦ λ _. apart e es fails rise later.1 differ.1
    ] refl

    ranks-differ : (es : List E) → AllByRecursion Rises es → IsDistinct nat_eq (map stamp es) → IsDistinct nat_eq (map (λ e. rank (stamp e)) (filter goes es))
    unfolding IsDistinct
    ranks-differ [] rise differ = tt
    ranks-differ (e ∷ es) rise differ = elim (goes e) as (λ b. goes e ≡ b → IsDistinct nat_eq (map (λ e. rank (stamp e)) (cond b (e ∷ filter goes es) (filter goes es)))) [
      | true ↦ λ is. (apart e es (fails-from e is) rise.0 rise.1 differ.0, ranks-differ es rise.1 differ.1)
      | false ↦ λ _. ranks-differ es rise.1 differ.1
    ] refl

    -- they are as many at most
    few-go : IsDistinct nat_eq (map stamp all) → length (filter goes all) ≤ purge
    few-go differ =
        let ranks : List ℕ = map (λ e. rank (stamp e)) (filter goes all) in
        let few = length-le_from_distinct_below ranks purge (ranks-differ all all-rise differ) (λ q found. any-below purge q ranks (ranks-below all) found) in
        omega (arith, few, length-map (filter goes all) (λ e. rank (stamp e)))

    -- those that fail the test and stay
    abbrev stays : E → Bool
    stays e = not (t e) && not (nat_lt (rank (stamp e)) purge)

    fails-stays : (e : E) → stays e ≡ true → t e ≡ false
    fails-stays e h = go (t e) (and-left (not (t e)) (not (nat_lt (rank (stamp e)) purge)) h)
      where
        go : (b : Bool) → not b ≡ true → b ≡ false
        go true h = absurd (false≢true h)
        go false h = refl

    ranked-above : (e : E) → stays e ≡ true → purge ≤ rank (stamp e)
    ranked-above e h = go (nat_lt (rank (stamp e)) purge) refl (and-right (not (t e)) (not (nat_lt (rank (stamp e)) purge)) h)
      where
        not_less : (a b : ℕ) → nat_lt a b ≡ false → b ≤ a
        not_less a b h = grind (arith, nat_tests)

        go : (b : Bool) → nat_lt (rank (stamp e)) purge ≡ b → not b ≡ true → purge ≤ rank (stamp e)
        go true is h = absurd (false≢true h)
        go false is h = not_less (rank (stamp e)) purge is

    -- their ranks, counted from that number
    lifts-below : (es : List E) → AllByRecursion Low es → AllByRecursion (λ m. m < free_count - purge) (map (λ e. rank (stamp e) - purge) (filter stays es))
    unfolding Low
    lifts-below [] low = tt
    lifts-below (e ∷ es) low = elim (stays e) as (λ b. stays e ≡ b → AllByRecursion (λ m. m < free_count - purge) (map (λ e. rank (stamp e) - purge) (cond b (e ∷ filter stays es) (filter stays es)))) [
      | true ↦ λ is. (omega (arith, ranked-above e is, low.0 (fails-stays e is)), lifts-below es low.1)
      | false ↦ λ _. lifts-below es low.1
    ] refl

    apart-stays : (e : E) (es : List E) → t e ≡ false → purge ≤ rank (stamp e) → Rises e → AllByRecursion Rises es → AllByRecursion (λ s. nat_eq (stamp e) s ≡ false) (map stamp es)
        → AllByRecursion (λ m. nat_eq (rank (stamp e) - purge) m ≡ false) (map (λ e. rank (stamp e) - purge) (filter stays es))
    unfolding Rises
    apart-stays e [] fails above rise later differ = tt
    apart-stays e (x ∷ es) fails above rise later differ = elim (stays x) as (λ b. stays x ≡ b → AllByRecursion (λ m. nat_eq (rank (stamp e) - purge) m ≡ false) (map (λ e. rank (stamp e) - purge) (cond b (x ∷ filter stays es) (filter stays es)))) [
      | true ↦ λ is. (
        elim (either (stamp e) (stamp x) differ.0) [
          | inl lt ↦ differ-above (rank (stamp e) - purge) (rank (stamp x) - purge) (omega (arith, rise (stamp x) fails lt, above))
          | inr gt ↦ differ-below (rank (stamp e) - purge) (rank (stamp x) - purge) (omega (arith, later.0 (stamp e) (fails-stays x is) gt, ranked-above x is))
        ],
        apart-stays e es fails above rise later.1 differ.1,
      )
      | false ↦ λ _. apart-stays e es fails above rise later.1 differ.1
    ] refl

    lifts-differ : (es : List E) → AllByRecursion Rises es → IsDistinct nat_eq (map stamp es) → IsDistinct nat_eq (map (λ e. rank (stamp e) - purge) (filter stays es))
    unfolding IsDistinct
    lifts-differ [] rise differ = tt
    lifts-differ (e ∷ es) rise differ = elim (stays e) as (λ b. stays e ≡ b → IsDistinct nat_eq (map (λ e. rank (stamp e) - purge) (cond b (e ∷ filter stays es) (filter stays es)))) [
      | true ↦ λ is. (apart-stays e es (fails-stays e is) (ranked-above e is) rise.0 rise.1 differ.0, lifts-differ es rise.1 differ.1)
      | false ↦ λ _. lifts-differ es rise.1 differ.1
    ] refl

    few-stay : IsDistinct nat_eq (map stamp all) → length (filter stays all) ≤ free_count - purge
    few-stay differ =
        let lifts : List ℕ = map (λ e. rank (stamp e) - purge) (filter stays all) in
        let few = length-le_from_distinct_below lifts (free_count - purge) (lifts-differ all all-rise differ) (λ q found. any-below (free_count - purge) q lifts (lifts-below all all-low) found) in
        omega (arith, few, length-map (filter stays all) (λ e. rank (stamp e) - purge))

    parts : (es : List E) → count_by goes es + count_by stays es ≡ count_by (λ e. not (t e)) es
    parts [] = refl
    parts (e ∷ es) =
        omega (arith, one (t e) (nat_lt (rank (stamp e)) purge), parts es, sum_by-cons (λ x. cond {A = ℕ} (goes x) 1 0) e es, sum_by-cons (λ x. cond {A = ℕ} (stays x) 1 0) e es, sum_by-cons (λ x. cond {A = ℕ} (not (t x)) 1 0) e es)
      where
        one : (b c : Bool) → ◌≡◌ {A = ℕ} (cond (not b && c) 1 0 + cond (not b && not c) 1 0) (cond (not b) 1 0)
        one true c = refl
        one false true = refl
        one false false = refl

    -- they are as many as the number, or all that fail the test
    exact-go : IsDistinct nat_eq (map stamp all) → length (filter goes all) ≡ min purge free_count
    exact-go differ = omega (arith, few-go differ, few-stay differ, parts all, length-filter goes all, length-filter stays all)

    -- each of them has a lower stamp than each that stays and fails the test
    older-goes : (gone left : E) → goes gone ≡ true → t left ≡ false → goes left ≡ false → stamp gone < stamp left
    older-goes gone left is fails stays = elim (nat_lt (stamp gone) (stamp left)) as (λ b. nat_lt (stamp gone) (stamp left) ≡ b → stamp gone < stamp left) [
      | true ↦ λ lt. lt-from (stamp gone) (stamp left) lt
      | false ↦ λ ge. absurd (true≢false (sym (lt-to (rank (stamp left)) purge (omega (arith, ranked gone is, lower (not_lt (stamp gone) (stamp left) ge)))) ∙ sym (ap (λ b. not b && nat_lt (rank (stamp left)) purge) fails) ∙ stays))
    ] refl
      where
        not_lt : (a b : ℕ) → nat_lt a b ≡ false → b ≤ a
        not_lt a b h = grind (arith, nat_tests)

        lower : stamp left ≤ stamp gone → rank (stamp left) ≤ rank (stamp gone)
        lower le = count-le (older_than (stamp left)) (older_than (stamp gone)) (older-le (stamp left) (stamp gone) le) all

pub purge-law : PurgeLaw
purge-law purge tickets records differ =
    let tracked : Key × Record → Bool = λ entry. is_tracked entry.0 tickets in
    let few = few-go tracked stamp_in records purge differ in
    let both = length-filter_both (is_purged purge tickets records) (λ entry. not (is_purged purge tickets records entry)) (λ entry. refl) records in
    record {
      untracked = λ gone is. fails-from tracked stamp_in records purge gone is;
      oldest = λ gone left is free stays. older-goes tracked stamp_in records purge gone left is free stays;
      few = omega (arith, few, both);
      exact = omega (arith, exact-go tracked stamp_in records purge differ, both);
      some = λ free least. purged-fewer purge tickets records least free;
    }
