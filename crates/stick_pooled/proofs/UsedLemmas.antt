-- How many entries are left at a moment: all but the first of the queue, whose dates are reached.
use Rattle.std.proofs.Common.{◌≡◌, ℕ, zero, suc, ◌+◌, ◌-◌, ◌<◌, ◌≤◌, ◌⊎◌, inl, inr, refl, sym, ◌∙◌, ap, subst, arith, List, [], ◌∷◌, ◌++◌, get_or, set, Bool, true, false, cond, not, eqb, Option, Some, None, is_some, IsSome, count_by, append_assoc, length}
use Rattle.std.specs.Prelude.{nat_lt, ◌||◌, slice_get}
use Rattle.std.specs.List.{AllByRecursion, Contains, IsDistinct}
use Rattle.std.specs.Option.{option_map, option_map_or}
use Rattle.std.proofs.lemmas.Bool.{cases_eq, eqb-false, false≢true}
use Rattle.std.proofs.lemmas.Bool.Decides.{nat_tests}
use Rattle.std.proofs.lemmas.List.{get_or-set_other}
use Rattle.std.proofs.lemmas.List.Elements.{Contains-append_right}
use Rattle.std.proofs.lemmas.List.Sums.{sum_by-cons}
use Rattle.entry_pool.proofs.DistinctSlots.{Off, distinct-cut, distinct-head, distinct-back, eqb-flip}
use Rattle.expiry_order.specs.Queue.{slot_after}
use Rattle.expiry_order.proofs.SlotLemmas.{slot_after-cut}
use Rattle.stick_model.specs.State.{outlives}
use Rattle.stick_pooled.specs.Stock.{Held, Stock, IsStock, held_at, held_count}
use Rattle.stick_pooled.specs.declared.entry.Entry.{Entry}
use Rattle.stick_pooled.specs.Shown.{record_of, stamp_at, moment_at, IsRising}
use Rattle.stick_pooled.specs.Seen.{is_kept}
use Rattle.stick_pooled.proofs.StockLemmas.{none_some, same_some}
use Rattle.stick_pooled.proofs.RecordLemmas.{later-alive}

-- ---- a count of slots, by a list that has those that are counted
module _ {X : Type 0} (p : Option X → Bool) (none : p None ≡ false) where
  one-none : ◌≡◌ {A = ℕ} (cond (p None) 1 0) 0
  one-none = ap (λ b. cond {A = ℕ} b 1 0) none

  none-set : (slots : List (Option X)) (x : ℕ) → get_or (set slots x None) x None ≡ None
  none-set [] x = refl
  none-set (o ∷ slots) zero = refl
  none-set (o ∷ slots) (suc x) = none-set slots x

  count-set : (slots : List (Option X)) (x : ℕ) → count_by p (set slots x None) + cond (p (get_or slots x None)) 1 0 ≡ count_by p slots
  count-set [] x = omega (arith, one-none)
  count-set (o ∷ slots) zero = omega (arith, one-none, sum_by-cons (λ (y : Option X). cond (p y) 1 0) o slots, sum_by-cons (λ (y : Option X). cond (p y) 1 0) None slots)
  count-set (o ∷ slots) (suc x) =
      let rest = count-set slots x in
      omega (arith, rest, sum_by-cons (λ (y : Option X). cond (p y) 1 0) o slots, sum_by-cons (λ (y : Option X). cond (p y) 1 0) o (set slots x None))

  count-nowhere : (slots : List (Option X)) → ((j : ℕ) → p (get_or slots j None) ≡ false) → count_by p slots ≡ 0
  count-nowhere [] off = refl
  count-nowhere (o ∷ slots) off =
      let rest = count-nowhere slots (λ j. off (suc j)) in
      let one : ◌≡◌ {A = ℕ} (cond (p o) 1 0) 0 = ap (λ b. cond {A = ℕ} b 1 0) (off 0) in
      omega (arith, rest, one, sum_by-cons (λ (y : Option X). cond (p y) 1 0) o slots)

  -- those of the list count the same in slots that differ at another alone
  count-others : (queue : List ℕ) (slots : List (Option X)) (x : ℕ) → Off x queue → count_by (λ j. p (get_or (set slots x None) j None)) queue ≡ count_by (λ j. p (get_or slots j None)) queue
  count-others [] slots x off = refl
  count-others (y ∷ queue) slots x off =
      let rest = count-others queue slots x off.1 in
      let same : ◌≡◌ {A = ℕ} (cond (p (get_or (set slots x None) y None)) 1 0) (cond (p (get_or slots y None)) 1 0) =
      ap (λ (o : Option X). cond {A = ℕ} (p o) 1 0) (get_or-set_other slots x y None None (eqb-false y x (eqb-flip x y off.0))) in
      omega (arith, rest, same, sum_by-cons (λ (j : ℕ). cond (p (get_or (set slots x None) j None)) 1 0) y queue, sum_by-cons (λ (j : ℕ). cond (p (get_or slots j None)) 1 0) y queue)

  contains-later : (queue : List ℕ) (x j : ℕ) → (j ≡ x → ⊥) → Contains (x ∷ queue) j → Contains queue j
  contains-later queue x j apart found = by_index found.0 found.1 found.2
    where
      by_index : (k : ℕ) → k < length (x ∷ queue) → get_or (x ∷ queue) k j ≡ j → Contains queue j
      by_index zero inside is = absurd (apart (sym is))
      by_index (suc k) inside is = (k, omega (arith, inside), is)

  pub count-queue : (queue : List ℕ) (slots : List (Option X)) → IsDistinct eqb queue → ((j : ℕ) → p (get_or slots j None) ≡ true → Contains queue j) → count_by p slots ≡ count_by (λ j. p (get_or slots j None)) queue
  count-queue [] slots distinct has = count-nowhere slots (λ j. off j (p (get_or slots j None)) refl)
    where
      off : (j : ℕ) (b : Bool) → p (get_or slots j None) ≡ b → b ≡ false
      off j false is = refl
      off j true is = absurd (omega (arith, (has j is).1))
  count-queue (x ∷ queue) slots distinct has =
      let off : Off x queue = distinct-head x queue distinct in
      let rest = count-queue queue (set slots x None) (distinct-back (x ∷ []) queue distinct) (λ j counted. later j counted (cases_eq j x)) in
      let others = count-others queue slots x off in
      omega (arith, rest, others, count-set slots x, sum_by-cons (λ (j : ℕ). cond (p (get_or slots j None)) 1 0) x queue)
    where
      later : (j : ℕ) → p (get_or (set slots x None) j None) ≡ true → (j ≡ x) ⊎ (j ≡ x → ⊥) → Contains queue j
      later j counted (inl same) = absurd (false≢true (sym none ∙ ap p (sym (none-set slots x)) ∙ ap (λ i. p (get_or (set slots x None) i None)) (sym same) ∙ counted))
      later j counted (inr apart) = contains-later queue x j apart (has j (ap p (sym (get_or-set_other slots x j None None apart)) ∙ counted))

-- ---- what the clock takes
or-true : (b : Bool) → b || true ≡ true
or-true true = refl
or-true false = refl

first-of : (rest : List ℕ) (slot : ℕ) → Some slot ≡ slice_get rest 0 → (later : List ℕ) × (rest ≡ slot ∷ later)
first-of [] slot is = absurd (none_some (sym is))
first-of (x ∷ xs) slot is = (xs, ap (λ y. y ∷ xs) (sym (same_some is)))

module _ (s : Stock) (expire : Option ℕ) (clock : ℕ) where
  -- a slot has an entry that the clock takes
  abbrev is_taken : Option Held → Bool
  is_taken o = option_map_or (λ (h : Held). not (is_kept clock expire h)) o false

  abbrev is_left : Option Held → Bool
  is_left o = option_map_or (is_kept clock expire) o false

  abbrev taken_in : List ℕ → ℕ
  taken_in queue = count_by (λ j. is_taken (held_at s j)) queue

  -- each entry stays or is taken
  count-split : (slots : List (Option Held)) → count_by is_some slots ≡ count_by (λ (o : Option Held). option_map_or (is_kept clock expire) o false) slots + count_by (λ (o : Option Held). option_map_or (λ (h : Held). not (is_kept clock expire h)) o false) slots
  count-split [] = refl
  count-split (o ∷ slots) =
      let rest = count-split slots in
      omega (arith, rest, one o, sum_by-cons (λ (x : Option Held). cond (is_some x) 1 0) o slots, sum_by-cons (λ (x : Option Held). cond (option_map_or (is_kept clock expire) x false) 1 0) o slots, sum_by-cons (λ (x : Option Held). cond (option_map_or (λ (h : Held). not (is_kept clock expire h)) x false) 1 0) o slots)
    where
      either : (b : Bool) → ◌≡◌ {A = ℕ} 1 (cond b 1 0 + cond (not b) 1 0)
      either true = refl
      either false = refl

      one : (x : Option Held) → ◌≡◌ {A = ℕ} (cond (is_some x) 1 0) (cond (is_left x) 1 0 + cond (is_taken x) 1 0)
      one None = refl
      one (Some h) = either (is_kept clock expire h)

  -- what is taken is in the queue
  taken-queued : IsStock s → (j : ℕ) → is_taken (held_at s j) ≡ true → Contains s.queue j
  taken-queued kept j taken = by_slot (held_at s j) refl taken
    where
      some-refs : (n : ℕ) → (n ≡ 0 → ⊥) → nat_lt 0 n ≡ true
      some-refs n some = grind (arith, nat_tests)

      by_refs : (h : Held) → held_at s j ≡ Some h → not (is_kept clock expire h) ≡ true → (h.entry.refs ≡ 0) ⊎ (h.entry.refs ≡ 0 → ⊥) → Contains s.queue j
      by_refs h there goes (inl free) = (kept.queued j).1 (record { held = h; there = there; alone = free })
      by_refs h there goes (inr some) = absurd (false≢true (sym (ap (λ b. not (b || outlives clock (record_of expire h))) (some-refs h.entry.refs some)) ∙ goes))

      by_slot : (o : Option Held) → held_at s j ≡ o → is_taken o ≡ true → Contains s.queue j
      by_slot None there goes = absurd (false≢true goes)
      by_slot (Some h) there goes = by_refs h there goes (cases_eq h.entry.refs 0)

  -- of a slot of the queue the date tells
  taken-is : IsStock s → (slot : ℕ) (entry : Entry) → Contains s.queue slot → option_map (λ (h : Held). h.entry) (held_at s slot) ≡ Some entry
      → is_taken (held_at s slot) ≡ not (option_map_or (λ life. nat_lt clock (entry.moment + life)) expire true)
  taken-is kept slot entry queued named =
      let f = (kept.queued slot).0 queued in
      let one : f.held.entry ≡ entry = same_some (sym (ap (option_map (λ (h : Held). h.entry)) f.there) ∙ named) in
      ap is_taken f.there ∙ ap (λ n. not (nat_lt 0 n || outlives clock (record_of expire f.held))) f.alone ∙ ap not (dates f.held one expire)
    where
      dates : (h : Held) → h.entry ≡ entry → (o : Option ℕ) → outlives clock (record_of o h) ≡ option_map_or (λ life. nat_lt clock (entry.moment + life)) o true
      dates h one None = refl
      dates h one (Some life) = ap (λ (e : Entry). nat_lt clock (e.moment + life)) one

  -- none later than one that is alive is taken
  not-taken : (moment slot : ℕ) → option_map_or (λ life. nat_lt clock (moment + life)) expire true ≡ true → moment ≤ moment_at s slot → is_taken (held_at s slot) ≡ false
  not-taken moment slot alive later = by_slot (held_at s slot) refl
    where
      by_slot : (o : Option Held) → held_at s slot ≡ o → is_taken o ≡ false
      by_slot None there = refl
      by_slot (Some h) there =
          let same : moment_at s slot ≡ h.entry.moment = ap (λ (o : Option Held). option_map_or (λ (x : Held). x.entry.moment) o 0) there in
          let lives : outlives clock (record_of expire h) ≡ true = later-alive expire clock moment h (omega (arith, same, later)) alive in
          ap (λ b. not (nat_lt 0 h.entry.refs || b)) lives ∙ ap not (or-true (nat_lt 0 h.entry.refs))

  taken-none : (moment slot : ℕ) → option_map_or (λ life. nat_lt clock (moment + life)) expire true ≡ true → moment ≤ moment_at s slot
      → (later : List ℕ) → AllByRecursion (λ other. (stamp_at s slot < stamp_at s other) × (moment_at s slot ≤ moment_at s other)) later → taken_in later ≡ 0
  taken-none moment slot alive from [] h = refl
  taken-none moment slot alive from (y ∷ later) h =
      let rest = taken-none moment slot alive from later h.1 in
      let one : ◌≡◌ {A = ℕ} (cond (is_taken (held_at s y)) 1 0) 0 = ap (λ b. cond {A = ℕ} b 1 0) (not-taken moment y alive (omega (arith, from, h.0.1))) in
      omega (arith, rest, one, sum_by-cons (λ (j : ℕ). cond (is_taken (held_at s j)) 1 0) y later)

  -- ---- the walk
  -- So far the queue was walked: what is counted is what stays, and what the rest of the queue has that doesn't.
  pub record IsWalk (live : ℕ) (next : Option ℕ) : Type 0 where
    pub before : List ℕ
    pub rest : List ℕ
    pub queue : s.queue ≡ before ++ rest
    pub first : next ≡ slice_get rest 0
    pub count : live ≡ count_by (λ (o : Option Held). option_map_or (is_kept clock expire) o false) s.slots + taken_in rest

  pub walk-begins : IsStock s → (live : ℕ) (next : Option ℕ) → live ≡ held_count s → next ≡ slice_get s.queue 0 → IsWalk live next
  walk-begins kept live next all front = record {
    before = [];
    rest = s.queue;
    queue = refl;
    first = front;
    count =
        let split = count-split s.slots in
        let by_queue = count-queue is_taken refl s.queue s.slots kept.once (taken-queued kept) in
        omega (arith, all, split, by_queue);
  }

  module _ (live slot : ℕ) (walk : IsWalk live (Some slot)) where
    cut-is : s.queue ≡ walk.before ++ slot ∷ (first-of walk.rest slot walk.first).0
    cut-is = walk.queue ∙ ap (λ r. walk.before ++ r) (first-of walk.rest slot walk.first).1

    pub walk-queued : Contains s.queue slot
    walk-queued = subst (λ q. Contains q slot) (sym cut-is) (Contains-append_right walk.before (slot ∷ (first-of walk.rest slot walk.first).0) slot (0, omega arith, refl))

    pub walk-some : IsStock s → IsSome (held_at s slot)
    walk-some kept = ap is_some ((kept.queued slot).0 walk-queued).there

    count-later : taken_in walk.rest ≡ cond (is_taken (held_at s slot)) 1 0 + taken_in (first-of walk.rest slot walk.first).0
    count-later = ap taken_in (first-of walk.rest slot walk.first).1 ∙ sum_by-cons (λ (j : ℕ). cond (is_taken (held_at s j)) 1 0) slot (first-of walk.rest slot walk.first).0

    module _ (entry : Entry) (named : option_map (λ (h : Held). h.entry) (held_at s slot) ≡ Some entry) where
      one-taken : IsStock s → option_map_or (λ life. nat_lt clock (entry.moment + life)) expire true ≡ false → ◌≡◌ {A = ℕ} (cond (is_taken (held_at s slot)) 1 0) 1
      one-taken kept dead = ap (λ b. cond {A = ℕ} b 1 0) (taken-is kept slot entry walk-queued named ∙ ap not dead)

      -- an entry whose date is reached is counted no more
      pub walk-counts : IsStock s → option_map_or (λ life. nat_lt clock (entry.moment + life)) expire true ≡ false → 1 ≤ live
      walk-counts kept dead = let one = one-taken kept dead in omega (arith, one, count-later, walk.count)

      pub walk-goes : IsStock s → option_map_or (λ life. nat_lt clock (entry.moment + life)) expire true ≡ false → (less : ℕ) (next : Option ℕ) → less ≡ live - 1 → next ≡ slot_after s.queue slot → IsWalk less next
      walk-goes kept dead less next fewer after = record {
        before = walk.before ++ slot ∷ [];
        rest = (first-of walk.rest slot walk.first).0;
        queue = cut-is ∙ sym (append_assoc walk.before (slot ∷ []) (first-of walk.rest slot walk.first).0);
        first =
            after ∙ ap (λ q. slot_after q slot) cut-is
            ∙ slot_after-cut walk.before (first-of walk.rest slot walk.first).0 slot (distinct-cut walk.before (first-of walk.rest slot walk.first).0 slot (subst (IsDistinct eqb) cut-is kept.once)).before;
        count = let one = one-taken kept dead in omega (arith, one, count-later, walk.count, fewer);
      }

      rising-rest : (before rest : List ℕ) → IsRising s (before ++ rest) → IsRising s rest
      rising-rest [] rest rising = rising
      rising-rest (x ∷ before) rest rising = rising-rest before rest rising.1

      -- from one that is alive on all are
      pub walk-stops : IsRising s s.queue → option_map_or (λ life. nat_lt clock (entry.moment + life)) expire true ≡ true → live ≡ count_by (λ (o : Option Held). option_map_or (is_kept clock expire) o false) s.slots
      walk-stops rising alive =
          let here : moment_at s slot ≡ entry.moment = moment-is (held_at s slot) refl named in
          let up = rising-rest walk.before (slot ∷ (first-of walk.rest slot walk.first).0) (subst (IsRising s) cut-is rising) in
          let none = taken-none entry.moment slot alive (omega (arith, here)) (first-of walk.rest slot walk.first).0 up.0 in
          let one : ◌≡◌ {A = ℕ} (cond (is_taken (held_at s slot)) 1 0) 0 = ap (λ b. cond {A = ℕ} b 1 0) (not-taken entry.moment slot alive (omega (arith, here))) in
          omega (arith, none, one, count-later, walk.count)
        where
          moment-is : (o : Option Held) → held_at s slot ≡ o → option_map (λ (h : Held). h.entry) o ≡ Some entry → moment_at s slot ≡ entry.moment
          moment-is None there is = absurd (none_some is)
          moment-is (Some h) there is = ap (λ (o : Option Held). option_map_or (λ (x : Held). x.entry.moment) o 0) there ∙ ap (λ (e : Entry). e.moment) (same_some is)

  none-later : (rest : List ℕ) → None ≡ slice_get rest 0 → taken_in rest ≡ 0
  none-later [] is = refl
  none-later (x ∷ xs) is = absurd (none_some is)

  -- at the end of the queue what is counted is what stays
  pub walk-ends : (live : ℕ) → IsWalk live None → live ≡ count_by (λ (o : Option Held). option_map_or (is_kept clock expire) o false) s.slots
  walk-ends live walk = let none = none-later walk.rest walk.first in omega (arith, none, walk.count)
