-- What a store's slots mean as records, and what of them stays as the clock goes on.
use Rattle.std.proofs.Common.{◌≡◌, ◌≢◌, ℕ, zero, suc, ◌+◌, ◌<◌, ◌≤◌, ◌⊎◌, inl, inr, refl, sym, ◌∙◌, ap, subst, arith, List, [], ◌∷◌, length, filter, map, get_or, Bool, true, false, cond, not, eqb, Option, Some, None, is_some, IsSome}
use Rattle.std.specs.Prelude.{nat_lt, ◌||◌, slice_get}
use Rattle.std.specs.BTreeMap.{is_at}
use Rattle.std.specs.Cmp.{tied_itself}
use Rattle.std.specs.List.{AllByRecursion, Contains}
use Rattle.std.specs.Map.{lookup}
use Rattle.std.specs.Option.{option_map, option_map_or}
use Rattle.std.specs.Ordering.{is_eq}
use Rattle.std.specs.declared.cmp.Ordering.TheVariants.{Equal}
use Rattle.std.proofs.Math.ListN.{get_or-map}
use Rattle.std.proofs.lemmas.Bool.{cases_eq, eqb-false}
use Rattle.std.proofs.lemmas.Bool.Decides.{nat_tests}
use Rattle.std.proofs.lemmas.List.{map-set, length-map, get_or-set_same, get_or-set_other}
use Rattle.expiry_order.specs.Queue.{without}
use Rattle.stick_pooled.specs.Stock.{Held, Stock, held_at, IsStock, without_slot}
use Rattle.stick_pooled.specs.declared.entry.Entry.{Entry}
use Rattle.stick_pooled.specs.Slots.{entries_of, IsAlone, IsDistinctIn}
use Rattle.stick_pooled.proofs.StockLemmas.{none_some, same_some}
use Rattle.stick_pooled.proofs.SlotLemmas.{sorted-entries, lookup-entries, entries-remove, filter-all}
use Rattle.stick_pooled.proofs.StoreCountLemmas.{all-entries, found-at, filter-one}
use Rattle.entry_pool.proofs.SlotLemmas.{get_within}
use Rattle.stick_model.specs.Key.{Key, key_cmp}
use Rattle.stick_model.specs.State.{refs, outlives, stays}
use Rattle.stick_model.specs.declared.rows.Ticket.{Ticket}
use Rattle.stick_model.specs.declared.rows.Record.{Record}
use Rattle.stick_model.proofs.EntryLemmas.{length-filter-le}
use Rattle.stick_pooled.specs.Shown.{record_of, keyed, records_of, AreCounted, stamp_at, moment_at, IsRising, IsDead, AreAlive, IsLeft}
use Rattle.std.proofs.lemmas.Map.Lookups.{exact_bytes}
use Rattle.std.specs.Cmp.Lexicographic.{nat_list_cmp_total}

-- ---- keys
key_tied : (a b : Key) → a ≡ b → key_cmp a b ≡ Equal
key_tied a b same = subst (λ c. key_cmp a c ≡ Equal) same (tied_itself nat_list_cmp_total a)

-- ---- what a slot shows
slots_of : Option ℕ → Stock → List (Option (Key × Record))
slots_of expire s = map (option_map (keyed expire)) s.slots

keyed-is : (expire : Option ℕ) (o : Option Held) (d : Key × Record) → option_map (keyed expire) o ≡ Some d → (h : Held) × (o ≡ Some h) × (keyed expire h ≡ d)
keyed-is expire None d is = absurd (none_some is)
keyed-is expire (Some h) d is = (h, refl, same_some is)

module _ (expire : Option ℕ) (s : Stock) (kept : IsStock s) where
  shown-get : (slot : ℕ) → get_or (map (option_map (keyed expire)) s.slots) slot None ≡ option_map (keyed expire) (held_at s slot)
  shown-get slot = get_or-map (option_map (keyed expire)) s.slots slot None

  pub shown-at : (slot : ℕ) (h : Held) → held_at s slot ≡ Some h → get_or (map (option_map (keyed expire)) s.slots) slot None ≡ Some (h.key, record_of expire h)
  shown-at slot h there = shown-get slot ∙ ap (option_map (keyed expire)) there

  pub held-from : (slot : ℕ) (d : Key × Record) → get_or (map (option_map (keyed expire)) s.slots) slot None ≡ Some d → (h : Held) × (held_at s slot ≡ Some h) × (keyed expire h ≡ d)
  held-from slot d there = keyed-is expire (held_at s slot) d (sym (shown-get slot) ∙ there)

  pub distinct-records : IsDistinctIn key_cmp (map (option_map (keyed expire)) s.slots)
  distinct-records i j d e one other same =
      let a = held-from i d one in
      let b = held-from j e other in
      kept.distinct i j a.0 b.0 a.1 b.1 (ap (λ (x : Key × Record). x.0) a.2 ∙ exact_bytes d.0 e.0 same ∙ sym (ap (λ (x : Key × Record). x.0) b.2))

  pub alone-at : (slot : ℕ) (h : Held) → held_at s slot ≡ Some h → IsAlone key_cmp (map (option_map (keyed expire)) s.slots) slot h.key
  alone-at slot h there = record {
    within = subst (λ n. slot < n) (sym (length-map s.slots (option_map (keyed expire)))) (get_within s.slots slot h there);
    only = λ j e at same. let b = held-from j e at in kept.distinct j slot b.0 h b.1 there (ap (λ (x : Key × Record). x.0) b.2 ∙ sym (exact_bytes h.key e.0 same));
    no_other = λ e at. key_tied h.key e.0 (ap (λ (x : Key × Record). x.0) (same_some (sym (shown-at slot h there) ∙ at)));
  }

  pub lookup-at : (slot : ℕ) (h : Held) → held_at s slot ≡ Some h → lookup (is_at (key_cmp h.key)) (records_of expire s) ≡ Some (record_of expire h)
  lookup-at slot h there =
      lookup-entries key_cmp nat_list_cmp_total h.key (map (option_map (keyed expire)) s.slots)
      ∙ found-at key_cmp nat_list_cmp_total h.key h.key (record_of expire h) (map (option_map (keyed expire)) s.slots) slot distinct-records (shown-at slot h there) (key_tied h.key h.key refl)

  pub records-without : (slot : ℕ) (h : Held) → held_at s slot ≡ Some h → records_of expire (without_slot s slot) ≡ filter (λ e. not (is_eq (key_cmp h.key e.0))) (records_of expire s)
  records-without slot h there =
      ap (entries_of key_cmp) (map-set (option_map (keyed expire)) s.slots slot None) ∙ entries-remove key_cmp nat_list_cmp_total exact_bytes h.key (map (option_map (keyed expire)) s.slots) slot (alone-at slot h there)

  -- ---- the clock
  -- without an entry that is dead the same stay
  pub dead-goes : (clock slot : ℕ) (tickets : List (Ticket × Key)) → AreCounted s tickets → IsDead s expire clock slot
      → filter (stays clock tickets) (records_of expire (without_slot s slot)) ≡ filter (stays clock tickets) (records_of expire s)
  dead-goes clock slot tickets counted dead =
      let f = (kept.queued slot).0 dead.queued in
      let none : refs dead.held.key tickets ≡ 0 = sym (counted slot dead.held dead.there) ∙ ap (λ (x : Held). x.entry.refs) (same_some (sym dead.there ∙ f.there)) ∙ f.alone in
      ap (filter (stays clock tickets)) (records-without slot dead.held dead.there)
      ∙ filter-one key_cmp nat_list_cmp_total dead.held.key (record_of expire dead.held) (stays clock tickets) (records_of expire s) (sorted-entries key_cmp nat_list_cmp_total (map (option_map (keyed expire)) s.slots)) (lookup-at slot dead.held dead.there)
      (λ key same. ap (λ k. nat_lt 0 (refs k tickets) || outlives clock (record_of expire dead.held)) (sym (exact_bytes dead.held.key key same)) ∙ ap (λ n. nat_lt 0 n || outlives clock (record_of expire dead.held)) none ∙ dead.reached)

  or-true : (b : Bool) → b || true ≡ true
  or-true true = refl
  or-true false = refl

  some-refs : (n : ℕ) → n ≢ 0 → nat_lt 0 n ≡ true
  some-refs n some = grind (arith, nat_tests)

  -- where none in the queue is dead all stay
  pub all-stay : (clock : ℕ) (tickets : List (Ticket × Key)) → AreCounted s tickets → AreAlive s expire clock → filter (stays clock tickets) (records_of expire s) ≡ records_of expire s
  all-stay clock tickets counted alive =
      filter-all (stays clock tickets) (records_of expire s) (all-entries key_cmp exact_bytes (λ (e : Key × Record). stays clock tickets e ≡ true) (map (option_map (keyed expire)) s.slots) (λ j e at.
      let b = held-from j e at in
      subst (λ (x : Key × Record). stays clock tickets x ≡ true) b.2 (one j b.0 b.1 (cases_eq b.0.entry.refs 0))))
    where
      one : (j : ℕ) (h : Held) → held_at s j ≡ Some h → (h.entry.refs ≡ 0) ⊎ (h.entry.refs ≡ 0 → ⊥) → stays clock tickets (keyed expire h) ≡ true
      one j h there (inl none) =
          ap (λ b. nat_lt 0 (refs h.key tickets) || b) (alive j h ((kept.queued j).1 (record { held = h; there = there; alone = none })) there) ∙ or-true (nat_lt 0 (refs h.key tickets))
      one j h there (inr some) = ap (λ b. b || outlives clock (record_of expire h)) (ap (λ n. nat_lt 0 n) (sym (counted j h there)) ∙ some-refs h.entry.refs some)

  -- ---- what is left
  other-at : (slot j : ℕ) → j ≢ slot → held_at (without_slot s slot) j ≡ held_at s j
  other-at slot j apart = get_or-set_other s.slots slot j None None apart

  pub left-without : (old : Stock) (clock slot : ℕ) → IsLeft old s → IsDead s expire clock slot → IsLeft old (without_slot s slot)
  left-without old clock slot left dead = record {
    fewer = λ j h there. left.fewer j h (was j h there (cases_eq j slot));
    tracked = λ j h there some. other-at slot j (λ same.
        let f = (kept.queued slot).0 dead.queued in
        let one : h ≡ f.held = same_some (sym (left.tracked j h there some) ∙ ap (held_at s) same ∙ f.there) in
        some (ap (λ (x : Held). x.entry.refs) one ∙ f.alone)) ∙ left.tracked j h there some;
    base = left.base;
  }
    where
      was : (j : ℕ) (h : Held) → held_at (without_slot s slot) j ≡ Some h → (j ≡ slot) ⊎ (j ≡ slot → ⊥) → held_at s j ≡ Some h
      was j h there (inl same) =
          absurd (none_some (sym (ap (λ i. held_at (without_slot s slot) i) same ∙ get_or-set_same s.slots slot None None (get_within s.slots slot dead.held dead.there)) ∙ there))
      was j h there (inr apart) = sym (other-at slot j apart) ∙ there

pub counted-left : (old s : Stock) (tickets : List (Ticket × Key)) → IsLeft old s → AreCounted old tickets → AreCounted s tickets
counted-left old s tickets left counted slot h there = counted slot h (left.fewer slot h there)

-- ---- the queue
module _ (s : Stock) (slot : ℕ) where
  same-at : (y : ℕ) → eqb y slot ≡ false → held_at (without_slot s slot) y ≡ held_at s y
  same-at y apart = get_or-set_other s.slots slot y None None (eqb-false y slot apart)

  all-removed : (x : ℕ) → eqb x slot ≡ false → (ys : List ℕ) → AllByRecursion (λ y. (stamp_at s x < stamp_at s y) × (moment_at s x ≤ moment_at s y)) ys
      → AllByRecursion (λ y. (stamp_at (without_slot s slot) x < stamp_at (without_slot s slot) y) × (moment_at (without_slot s slot) x ≤ moment_at (without_slot s slot) y)) (without ys slot)
  all-removed x here [] h = tt
  all-removed x here (y ∷ ys) h = go (all-removed x here ys h.1) (eqb y slot) refl
    where
      go : AllByRecursion (λ y. (stamp_at (without_slot s slot) x < stamp_at (without_slot s slot) y) × (moment_at (without_slot s slot) x ≤ moment_at (without_slot s slot) y)) (without ys slot)
          → (b : Bool) → eqb y slot ≡ b
          → AllByRecursion (λ y. (stamp_at (without_slot s slot) x < stamp_at (without_slot s slot) y) × (moment_at (without_slot s slot) x ≤ moment_at (without_slot s slot) y)) (cond (not b) (y ∷ without ys slot) (without ys slot))
      go rest true is = rest
      go rest false is = (
        subst (λ (p : Option Held × Option Held). (option_map_or (λ (held : Held). held.entry.stamp) p.0 0 < option_map_or (λ (held : Held). held.entry.stamp) p.1 0) × (option_map_or (λ (held : Held). held.entry.moment) p.0 0 ≤ option_map_or (λ (held : Held). held.entry.moment) p.1 0))
            (λ i. (sym (same-at x here) i, sym (same-at y is) i)) h.0,
        rest,
      )

  pub rising-without : (ys : List ℕ) → IsRising s ys → IsRising (without_slot s slot) (without ys slot)
  rising-without [] h = tt
  rising-without (y ∷ ys) h = go (rising-without ys h.1) (eqb y slot) refl
    where
      go : IsRising (without_slot s slot) (without ys slot) → (b : Bool) → eqb y slot ≡ b → IsRising (without_slot s slot) (cond (not b) (y ∷ without ys slot) (without ys slot))
      go rest true is = rest
      go rest false is = (all-removed y is ys h.0, rest)

pub length-without : (queue : List ℕ) (slot k : ℕ) → k < length queue → get_or queue k slot ≡ slot → length (without queue slot) < length queue
length-without [] slot k inside is = absurd (omega (arith, inside))
length-without (x ∷ xs) slot k inside is = go (λ j. length-without xs slot j) (eqb x slot) refl k inside is
  where
    go : ((j : ℕ) → j < length xs → get_or xs j slot ≡ slot → length (without xs slot) < length xs) → (b : Bool) → eqb x slot ≡ b → (k : ℕ) → k < length (x ∷ xs) → get_or (x ∷ xs) k slot ≡ slot
        → length (cond (not b) (x ∷ without xs slot) (without xs slot)) < length (x ∷ xs)
    go rest true same k inside is = let few = length-filter-le (λ other. not (eqb other slot)) xs in omega (arith, few)
    go rest false apart zero inside is = absurd (eqb-false x slot apart is)
    go rest false apart (suc k) inside is = let few = rest k (omega (arith, inside)) is in omega (arith, few)

-- ---- the front
-- the first of the queue has an entry
pub first-queued : (queue : List ℕ) (slot : ℕ) → slice_get queue 0 ≡ Some slot → Contains queue slot
first-queued [] slot is = absurd (none_some is)
first-queued (x ∷ xs) slot is = (0, omega arith, same_some is)

pub first-some : (s : Stock) (slot : ℕ) → IsStock s → slice_get s.queue 0 ≡ Some slot → IsSome (held_at s slot)
first-some s slot kept is = ap is_some ((kept.queued slot).0 (first-queued s.queue slot is)).there

-- ---- the front of a queue that rises
all-in : {X : Type 0} (P : X → Type 0) (xs : List X) (k : ℕ) (x : X) → k < length xs → get_or xs k x ≡ x → AllByRecursion P xs → P x
all-in P [] k x inside is h = absurd (omega (arith, inside))
all-in P (y ∷ xs) zero x inside is h = subst P is h.0
all-in P (y ∷ xs) (suc k) x inside is h = all-in P xs k x (omega (arith, inside)) is h.1

front-first : (s : Stock) (queue : List ℕ) (front : ℕ) → slice_get queue 0 ≡ Some front → IsRising s queue → (j k : ℕ) → k < length queue → get_or queue k j ≡ j → moment_at s front ≤ moment_at s j
front-first s [] front is rising j k inside at = absurd (none_some is)
front-first s (x ∷ xs) front is rising j zero inside at = let same : moment_at s front ≡ moment_at s j = ap (moment_at s) (sym (same_some is) ∙ at) in omega (arith, same)
front-first s (x ∷ xs) front is rising j (suc k) inside at =
    subst (λ y. moment_at s y ≤ moment_at s j) (same_some is) (all-in (λ y. (stamp_at s x < stamp_at s y) × (moment_at s x ≤ moment_at s y)) xs k j (omega (arith, inside)) at rising.0).1

-- one that was refreshed later than what is alive is so too
pub later-alive : (expire : Option ℕ) (clock moment : ℕ) (h : Held) → moment ≤ h.entry.moment → option_map_or (λ life. nat_lt clock (moment + life)) expire true ≡ true → outlives clock (record_of expire h) ≡ true
later-alive None clock moment h later alive = refl
later-alive (Some life) clock moment h later alive = grind (arith, nat_tests)

pub front-alive : (s : Stock) (expire : Option ℕ) (clock front : ℕ) (entry : Entry) → IsRising s s.queue → slice_get s.queue 0 ≡ Some front → option_map (λ (held : Held). held.entry) (held_at s front) ≡ Some entry
    → option_map_or (λ life. nat_lt clock (entry.moment + life)) expire true ≡ true → AreAlive s expire clock
front-alive s expire clock front entry rising first named alive slot held queued there =
    later-alive expire clock entry.moment held (earlier (held_at s front) refl named) alive
  where
    earlier : (o : Option Held) → held_at s front ≡ o → option_map (λ (held : Held). held.entry) o ≡ Some entry → entry.moment ≤ held.entry.moment
    earlier None is none = absurd (none_some none)
    earlier (Some f) is one =
        let before = front-first s s.queue front first rising slot queued.0 queued.1 queued.2 in
        let here : moment_at s front ≡ entry.moment = ap (λ (o : Option Held). option_map_or (λ (h : Held). h.entry.moment) o 0) is ∙ ap (λ (e : Entry). e.moment) (same_some one) in
        let later : moment_at s slot ≡ held.entry.moment = ap (λ (o : Option Held). option_map_or (λ (h : Held). h.entry.moment) o 0) there in
        omega (arith, before, here, later)
