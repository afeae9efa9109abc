-- Who shows least, and that what workers hold stays even.
use Rattle.std.proofs.Common.{◌≡◌, ◌≢◌, ◌≤◌, ◌<◌, ◌⊎◌, inl, inr, ⊎_elim, arith, ℕ, zero, suc, ◌+◌, ◌*◌, ◌/◌, ◌-◌, ◌^◌, ◌==◌, ◌&&◌, not, min, nat_lt, nat_eq, Bool, true, false, refl, sym, ap, ◌∙◌, subst, List, [], ◌∷◌, Option, Some, None, length, slice_get, slice_set, if◌then◌else◌}
use Rattle.std.proofs.lemmas.Bool.Decides.{nat_tests}
use Rattle.tcp_relay.specs.Balance.{is_alone, AloneLaw, EvenLaw, IsEven, TakenLaw, away, is_away, leaves_to, least_from, least_of, left_to, less_of, others_of, shown}
use Rattle.tcp_relay.specs.declared.balance.Candidate.{Candidate}

none_some : {X : Type 0} (x : X) → None ≡ Some x → ⊥
none_some x e = cc

in_some : {X : Type 0} (x y : X) → Some x ≡ Some y → x ≡ y
in_some x y e = cc

-- ---- the least

one_step : (least other : Candidate) (m : ℕ) → m ≤ (less_of least other).word → m ≤ least.word
one_step least other m is = grind (arith, is)

other_step : (least other : Candidate) (m : ℕ) → m ≤ (less_of least other).word → m ≤ other.word
other_step least other m is = grind (arith, is)

-- it shows no more than the first
below_first : (least : Candidate) (place : ℕ) (words : List ℕ) → (least_from least place words).word ≤ least.word
below_first least place [] = omega arith
below_first least place (word ∷ words) =
    let other : Candidate = record { worker = place; word = word } in
    one_step least other _ (below_first (less_of least other) (place + 1) words)

-- nor than any other
below_each : (least : Candidate) (place : ℕ) (words : List ℕ) (k w : ℕ) → slice_get words k ≡ Some w → (least_from least place words).word ≤ w
below_each least place [] zero w at = absurd (none_some w at)
below_each least place [] (suc k) w at = absurd (none_some w at)
below_each least place (word ∷ words) zero w at =
    let other : Candidate = record { worker = place; word = word } in
    subst (λ x. (least_from least place (word ∷ words)).word ≤ x) (in_some word w at) (other_step least other _ (below_first (less_of least other) (place + 1) words))
below_each least place (word ∷ words) (suc k) w at =
    below_each (less_of least (record { worker = place; word = word })) (place + 1) words k w at

-- it is the first, or stands in its place
abbrev IsThere : Candidate → Candidate → ℕ → List ℕ → Type 0
IsThere found least place words = (found ≡ least) ⊎ ((k : ℕ) × (found.worker ≡ place + k) × (slice_get words k ≡ Some found.word))

stands_from : (b : Bool) (found least : Candidate) (place word : ℕ) (words : List ℕ) → IsThere found (if b then record { worker = place; word = word } else least) (place + 1) words → IsThere found least place (word ∷ words)
stands_from true found least place word words (inl is) = inr (0, ap (λ (x : Candidate). x.worker) is ∙ omega arith, ap (λ (x : Candidate). Some x.word) (sym is))
stands_from false found least place word words (inl is) = inl is
stands_from b found least place word words (inr (k, at, there)) = inr (suc k, at ∙ omega arith, there)

stands : (least : Candidate) (place : ℕ) (words : List ℕ) → IsThere (least_from least place words) least place words
stands least place [] = inl refl
stands least place (word ∷ words) = stands_from (nat_lt word least.word) (least_from least place (word ∷ words)) least place word words (stands (less_of least (record { worker = place; word = word })) (place + 1) words)

-- ---- to whom a client is left

away_never : (held : ℕ) → leaves_to held away ≡ true → ⊥
away_never held is = cc

none_before : (k : ℕ) → 0 + k ≡ k
none_before k = omega arith

-- it is one of those who show their words
held_word : (held : ℕ) (words : List ℕ) → leaves_to held (least_of words).word ≡ true → slice_get words (least_of words).worker ≡ Some (least_of words).word
held_word held words leaves =
    ⊎_elim
    (λ (is : least_of words ≡ record { worker = 0; word = away }). absurd (away_never held (subst (λ (x : Candidate). leaves_to held x.word ≡ true) is leaves)))
    (λ (it : (k : ℕ) × ((least_of words).worker ≡ 0 + k) × (slice_get words k ≡ Some (least_of words).word)). subst (λ x. slice_get words x ≡ Some (least_of words).word) (sym (it.1 ∙ none_before it.0)) it.2)
    (stands (record { worker = 0; word = away }) 0 words)

some_if : (b : Bool) (x taker : ℕ) → (if b then Some x else None) ≡ Some taker → (b ≡ true) × (x ≡ taker)
some_if true x taker is = (refl, in_some x taker is)
some_if false x taker is = absurd (none_some taker is)

none_if : (b : Bool) (x : ℕ) → (if b then Some x else None) ≡ None → b ≡ false
none_if true x is = absurd (none_some x (sym is))
none_if false x is = refl

if_none : (b : Bool) (x : ℕ) → b ≡ false → (if b then Some x else None) ≡ None
if_none true x is = cc
if_none false x is = refl

not_true : (b : Bool) → (b ≡ true → ⊥) → b ≡ false
not_true true never = absurd (never refl)
not_true false never = refl

-- a word of another, beside one's own
get_after_set : {X : Type 0} (xs : List X) (i j : ℕ) (y x : X) → slice_get (slice_set xs i y) j ≡ Some x → ((j ≡ i) × (x ≡ y)) ⊎ (slice_get xs j ≡ Some x)
get_after_set [] i j y x e = inr e
get_after_set (z ∷ xs) zero zero y x e = inl (refl, sym (in_some y x e))
get_after_set (z ∷ xs) zero (suc j) y x e = inr e
get_after_set (z ∷ xs) (suc i) zero y x e = inr e
get_after_set (z ∷ xs) (suc i) (suc j) y x e = ⊎_elim (λ (here : (j ≡ i) × (x ≡ y)). inl (ap suc here.0, here.1)) (λ (there : slice_get xs j ≡ Some x). inr there) (get_after_set xs i j y x e)

-- the place is that one, or what is there stays
same_or_stays : {X : Type 0} (xs : List X) (i j : ℕ) (y x : X) → slice_get xs j ≡ Some x → (j ≡ i) ⊎ (slice_get (slice_set xs i y) j ≡ Some x)
same_or_stays [] i j y x e = inr e
same_or_stays (z ∷ xs) zero zero y x e = inl refl
same_or_stays (z ∷ xs) zero (suc j) y x e = inr e
same_or_stays (z ∷ xs) (suc i) zero y x e = inr e
same_or_stays (z ∷ xs) (suc i) (suc j) y x e = ⊎_elim (λ (here : j ≡ i). inl (ap suc here)) (λ (there : slice_get (slice_set xs i y) j ≡ Some x). inr there) (same_or_stays xs i j y x e)

-- ---- whoever is left a client takes it

leaves_less : (held word : ℕ) → leaves_to held word ≡ true → word / 2 < held
leaves_less held word is = grind (arith, is)

no_more : (word x : ℕ) → word ≤ x → leaves_to (word / 2) x ≡ true → ⊥
no_more word x most leaves = let less : x / 2 < word / 2 = leaves_less (word / 2) x leaves in omega (arith, most, less)

not_own : (held word own : ℕ) → own / 2 ≡ held → word / 2 < held → leaves_to (word / 2) own ≡ true → ⊥
not_own held word own is fewer leaves = let less : own / 2 < word / 2 = leaves_less (word / 2) own leaves in omega (arith, is, fewer, less)

module _ (worker held taker word own : ℕ) (words : List ℕ) (own_at : slice_get words worker ≡ Some own) (holds : own / 2 ≡ held)
    (left : left_to held (others_of worker words) ≡ Some taker) (word_at : slice_get words taker ≡ Some word) where
  abbrev least : Candidate
  least = least_of (others_of worker words)

  is_left : (leaves_to held least.word ≡ true) × (least.worker ≡ taker)
  is_left = some_if (leaves_to held least.word) least.worker taker left

  there : slice_get (others_of worker words) taker ≡ Some least.word
  there = subst (λ x. slice_get (others_of worker words) x ≡ Some least.word) is_left.1 (held_word held (others_of worker words) is_left.0)

  least_is : least.word ≡ word
  least_is =
      ⊎_elim
      (λ (here : (taker ≡ worker) × (least.word ≡ away)). absurd (away_never held (subst (λ x. leaves_to held x ≡ true) here.1 is_left.0)))
      (λ (at : slice_get words taker ≡ Some least.word). in_some least.word word (sym at ∙ word_at))
      (get_after_set words worker taker away least.word there)

  fewer : word / 2 < held
  fewer = leaves_less held word (subst (λ x. leaves_to held x ≡ true) least_is is_left.0)

  -- another of those that he could leave it to
  module _ (leaves : leaves_to (word / 2) (least_of (others_of taker words)).word ≡ true) where
    abbrev next : Candidate
    next = least_of (others_of taker words)

    its : slice_get (others_of taker words) next.worker ≡ Some next.word
    its = held_word (word / 2) (others_of taker words) leaves

    of_words : slice_get words next.worker ≡ Some next.word → ⊥
    of_words at =
        ⊎_elim
        (λ (here : next.worker ≡ worker). not_own held word own holds fewer (subst (λ x. leaves_to (word / 2) x ≡ true) (in_some next.word own (sym at ∙ (ap (slice_get words) here ∙ own_at))) leaves))
        (λ (stays : slice_get (others_of worker words) next.worker ≡ Some next.word). no_more word next.word (subst (λ x. x ≤ next.word) least_is (below_each (record { worker = 0; word = away }) 0 (others_of worker words) next.worker next.word stays)) leaves)
        (same_or_stays words worker next.worker away next.word at)

    nobody : ⊥
    nobody =
        ⊎_elim
        (λ (here : (next.worker ≡ taker) × (next.word ≡ away)). away_never (word / 2) (subst (λ x. leaves_to (word / 2) x ≡ true) here.1 leaves))
        of_words
        (get_after_set words taker next.worker away next.word its)

pub left_taken : TakenLaw
left_taken worker held taker word own words own_at holds left word_at =
    if_none (leaves_to (word / 2) (least_of (others_of taker words)).word) (least_of (others_of taker words)).worker
    (not_true (leaves_to (word / 2) (least_of (others_of taker words)).word) (nobody worker held taker word own words own_at holds left word_at))

-- ---- what all hold stays even

no_less : (held m w : ℕ) → held < 2 ^ 32 → leaves_to held m ≡ false → m ≤ w → held ≤ w / 2
no_less held m w few not_left most = grind (arith, few, not_left, most)

more_shown : (held : ℕ) → held < 2 ^ 32 → shown (held + 1) false / 2 ≡ held + 1
more_shown held few = grind (arith, few)

own_shown : (held : ℕ) (waits : Bool) → held < 2 ^ 32 → shown held waits / 2 ≡ held
own_shown held true few = grind (arith, few)
own_shown held false few = grind (arith, few)

own_there : (held : ℕ) (waits : Bool) → held < 2 ^ 32 → is_away (shown held waits) ≡ false
own_there held true few = grind (arith, few)
own_there held false few = grind (arith, few)

module _ (worker held : ℕ) (waits : Bool) (words : List ℕ) (own_at : slice_get words worker ≡ Some (shown held waits)) (few : held < 2 ^ 32)
    (left : left_to held (others_of worker words) ≡ None) (even : IsEven words) where
  abbrev more : ℕ
  more = shown (held + 1) false

  not_left : leaves_to held (least_of (others_of worker words)).word ≡ false
  not_left = none_if (leaves_to held (least_of (others_of worker words)).word) (least_of (others_of worker words)).worker left

  -- none of the others holds fewer
  none_fewer : (other b : ℕ) → slice_get words other ≡ Some b → held ≤ b / 2
  none_fewer other b at =
      ⊎_elim
      (λ (here : other ≡ worker). let is : shown held waits ≡ b = in_some (shown held waits) b (sym own_at ∙ (sym (ap (slice_get words) here) ∙ at)) in subst (λ x. held ≤ x / 2) is (subst (λ x. held ≤ x) (sym (own_shown held waits few)) (omega arith)))
      (λ (stays : slice_get (others_of worker words) other ≡ Some b). no_less held (least_of (others_of worker words)).word b few not_left (below_each (record { worker = 0; word = away }) 0 (others_of worker words) other b stays))
      (same_or_stays words worker other away b at)

  new_old : (a other b : ℕ) → a ≡ more → slice_get words other ≡ Some b → a / 2 ≤ b / 2 + 1
  new_old a other b is at =
      let fewer : held ≤ b / 2 = none_fewer other b at in
      let half : a / 2 ≡ held + 1 = ap (λ x. x / 2) is ∙ more_shown held few in
      omega (arith, fewer, half)

  old_new : (one a b : ℕ) → slice_get words one ≡ Some a → is_away a ≡ false → b ≡ more → a / 2 ≤ b / 2 + 1
  old_new one a b at a_there is =
      let was : a / 2 ≤ shown held waits / 2 + 1 = even one worker a (shown held waits) at own_at a_there (own_there held waits few) in
      let own : shown held waits / 2 ≡ held = own_shown held waits few in
      let half : b / 2 ≡ held + 1 = ap (λ x. x / 2) is ∙ more_shown held few in
      omega (arith, was, own, half)

  both : (one other a b : ℕ) → ((one ≡ worker) × (a ≡ more)) ⊎ (slice_get words one ≡ Some a) → ((other ≡ worker) × (b ≡ more)) ⊎ (slice_get words other ≡ Some b) → is_away a ≡ false → is_away b ≡ false → a / 2 ≤ b / 2 + 1
  both one other a b (inl here) (inl there) a_there b_there = let same : a ≡ b = here.1 ∙ sym there.1 in subst (λ x. a / 2 ≤ x / 2 + 1) same (omega arith)
  both one other a b (inl here) (inr at) a_there b_there = new_old a other b here.1 at
  both one other a b (inr at) (inl there) a_there b_there = old_new one a b at a_there there.1
  both one other a b (inr at) (inr there) a_there b_there = even one other a b at there a_there b_there

pub even_stays : EvenLaw
even_stays worker held waits words own_at few left even one other a b one_at other_at a_there b_there =
    both worker held waits words own_at few left even one other a b
    (get_after_set words worker one (shown (held + 1) false) a one_at)
    (get_after_set words worker other (shown (held + 1) false) b other_at) a_there b_there

-- ---- one that is alone

none_first : (worker : ℕ) → (nat_lt 1 2 && (suc worker == 0)) ≡ true → ⊥
none_first worker is = grind (arith, nat_tests, is)

none_second : (worker more : ℕ) → (nat_lt (suc (suc more)) 2 && (worker == 0)) ≡ true → ⊥
none_second worker more is = grind (arith, nat_tests, is)

-- it is away to itself, and of others there is none
pub alone_none : AloneLaw
alone_none worker held [] alone = refl
alone_none zero held (word ∷ []) alone = refl
alone_none (suc worker) held (word ∷ []) alone = absurd (none_first worker alone)
alone_none worker held (word ∷ other ∷ words) alone = absurd (none_second worker (length words) alone)
