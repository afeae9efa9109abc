-- Room for one more entry: the front of the queue is the oldest of those that no reference holds, and a purge takes it first.
use Rattle.std.proofs.Common.{◌≡◌, ◌≢◌, ℕ, zero, suc, ◌+◌, ◌<◌, ◌≤◌, ◌⊎◌, inl, inr, refl, sym, ◌∙◌, ap, subst, arith, List, [], ◌∷◌, length, map, filter, get_or, set, count_by, Bool, true, false, cond, not, ◌&&◌, ◌||◌, nat_lt, Option, Some, None}
use Rattle.std.specs.Prelude.{slice_get, is_some}
use Rattle.std.specs.Cmp.Lexicographic.{nat_list_cmp_total}
use Rattle.std.specs.List.{AllByRecursion, list_all}
use Rattle.std.specs.Map.{lookup}
use Rattle.std.specs.Option.{option_map, option_map_or}
use Rattle.std.proofs.lemmas.Bool.{cases_eq, false≢true, true≢false}
use Rattle.std.proofs.lemmas.Bool.Decides.{nat_tests}
use Rattle.std.proofs.lemmas.List.{map-set}
use Rattle.std.proofs.lemmas.List.Sums.{sum_by-cons, sum_by-set, count_by-le-length}
use Rattle.std.proofs.lemmas.Map.Lookups.{exact_bytes}
use Rattle.entry_pool.proofs.SlotLemmas.{get_within}
use Rattle.stick_pooled.specs.Stock.{Held, Stock, IsStock, IsFree, held_at, held_count, without_slot}
use Rattle.stick_pooled.proofs.StockLemmas.{none_some, same_some, removed}
use Rattle.stick_pooled.proofs.SlotLemmas.{filter-all}
use Rattle.stick_pooled.proofs.StoreCountLemmas.{all-entries, count-entries}
use Rattle.stick_table.proofs.PurgeLemmas.{filter-same}
use Rattle.stick_model.specs.Key.{Key, key_cmp, same_key}
use Rattle.stick_model.specs.State.{is_tracked}
use Rattle.stick_model.specs.Room.{count_older, is_purged, purged, purge_of, all_tracked, room_in}
use Rattle.stick_model.specs.declared.rows.Ticket.{Ticket}
use Rattle.stick_model.specs.declared.rows.Record.{Record}
use Rattle.stick_model.specs.declared.specification.Spec.{Spec}
use Rattle.stick_model.proofs.KeyLemmas.{same_key-refl, same_key-exact}
use Rattle.stick_model.proofs.RoomLemmas.{room-purged}
use Rattle.stick_pooled.specs.Shown.{record_of, keyed, records_of, AreCounted, stamp_at, moment_at, IsRising}
use Rattle.stick_pooled.specs.Space.{IsPurged, IsRoomy, IsFull}
use Rattle.stick_pooled.proofs.RecordLemmas.{held-from, shown-at, alone-at, distinct-records, lookup-at, records-without, first-queued}
use Rattle.stick_pooled.proofs.TableLemmas.{records-length}

-- ---- a front, or none
pub none-from : (o : Option ℕ) → is_some o ≡ false → o ≡ None
none-from None is = refl
none-from (Some x) is = absurd (true≢false is)

pub some-from : (o : Option ℕ) → is_some o ≡ true → (x : ℕ) × (o ≡ Some x)
some-from None is = absurd (false≢true is)
some-from (Some x) is = (x, refl)

-- ---- lists of entries
module _ {K X : Type 0} (test : K → Bool) (p : K × X → Bool) where
  not-all : (es : List (K × X)) (v : X) → lookup test es ≡ Some v → ((k : K) → test k ≡ true → p (k, v) ≡ false) → list_all p es ≡ false
  not-all [] v is fails = absurd (none_some is)
  not-all (e ∷ es) v is fails = go (λ later. not-all es v later fails) (test e.0) refl is
    where
      left-false : (a : Bool) → a && false ≡ false
      left-false true = refl
      left-false false = refl

      go : (lookup test es ≡ Some v → list_all p es ≡ false) → (b : Bool) → test e.0 ≡ b → cond b (Some e.1) (lookup test es) ≡ Some v → p e && list_all p es ≡ false
      go rest true hit here = ap (λ b. b && list_all p es) (ap (λ w. p (e.0, w)) (same_some here) ∙ fails e.0 hit)
      go rest false miss later = ap (λ b. p e && b) (rest later) ∙ left-false (p e)

all-true : {E : Type 0} (p : E → Bool) (es : List E) → AllByRecursion (λ e. p e ≡ true) es → list_all p es ≡ true
all-true p [] h = refl
all-true p (e ∷ es) h = ap (λ b. b && list_all p es) h.0 ∙ all-true p es h.1

count-none : {E : Type 0} (p : E → Bool) (es : List E) → AllByRecursion (λ e. p e ≡ false) es → ◌≡◌ {A = ℕ} (count_by p es) 0
count-none p [] h = refl
count-none p (e ∷ es) h =
    let none : ◌≡◌ {A = ℕ} (cond (p e) 1 0) 0 = ap (λ b. cond {A = ℕ} b 1 0) h.0 in
    let rest = count-none p es h.1 in
    omega (arith, none, rest, sum_by-cons (λ x. cond {A = ℕ} (p x) 1 0) e es)

module _ {K X : Type 0} (p : K × X → Bool) where
  -- without the entry of a slot those that pass are fewer by one, where it passes
  count-set : (slots : List (Option (K × X))) (at : ℕ) (e : K × X) → at < length slots → get_or slots at None ≡ Some e
      → count_by (λ o. option_map_or p o false) slots ≡ count_by (λ o. option_map_or p o false) (set slots at None) + cond (p e) 1 0
  count-set slots at e inside there =
      let moved : count_by (λ o. option_map_or p o false) (set slots at None) + cond (option_map_or p (get_or slots at None) false) 1 0 ≡ count_by (λ o. option_map_or p o false) slots + 0 =
      sum_by-set (λ (o : Option (K × X)). cond {A = ℕ} (option_map_or p o false) 1 0) slots at None None inside in
      let here : ◌≡◌ {A = ℕ} (cond (option_map_or p (get_or slots at None) false) 1 0) (cond (p e) 1 0) = ap (λ (o : Option (K × X)). cond {A = ℕ} (option_map_or p o false) 1 0) there in
      omega (arith, moved, here)

filter-both : {E : Type 0} (p q : E → Bool) (es : List E) → filter q (filter p es) ≡ filter (λ e. p e && q e) es
filter-both p q [] = refl
filter-both p q (e ∷ es) = go (filter-both p q es) (p e)
  where
    go : filter q (filter p es) ≡ filter (λ e. p e && q e) es → (b : Bool) → filter q (cond b (e ∷ filter p es) (filter p es)) ≡ cond (b && q e) (e ∷ filter (λ e. p e && q e) es) (filter (λ e. p e && q e) es)
    go rest true = ap (λ xs. cond (q e) (e ∷ xs) xs) rest
    go rest false = rest

-- ---- the front is before all others
later-in : (s : Stock) (x : ℕ) (xs : List ℕ) (k j : ℕ) → k < length xs → get_or xs k j ≡ j → AllByRecursion (λ y. (stamp_at s x < stamp_at s y) × (moment_at s x ≤ moment_at s y)) xs → stamp_at s x < stamp_at s j
later-in s x [] k j inside is h = absurd (omega (arith, inside))
later-in s x (y ∷ ys) zero j inside is h = subst (λ i. stamp_at s x < stamp_at s i) is h.0.0
later-in s x (y ∷ ys) (suc k) j inside is h = later-in s x ys k j (omega (arith, inside)) is h.1

front-before : (s : Stock) (queue : List ℕ) (front : ℕ) → slice_get queue 0 ≡ Some front → IsRising s queue → (j k : ℕ) → k < length queue → get_or queue k j ≡ j → (j ≡ front) ⊎ (stamp_at s front < stamp_at s j)
front-before s [] front is rising j k inside at = absurd (none_some is)
front-before s (x ∷ xs) front is rising j zero inside at = inl (sym at ∙ same_some is)
front-before s (x ∷ xs) front is rising j (suc k) inside at = inr (subst (λ y. stamp_at s y < stamp_at s j) (same_some is) (later-in s x xs k j (omega (arith, inside)) at rising.0))

some-tracked : (n : ℕ) → n ≢ 0 → nat_lt 0 n ≡ true
some-tracked n some = grind (arith, nat_tests)

none-below : (n : ℕ) → nat_lt n 0 ≡ false
none-below n = grind (arith, nat_tests)

one-more : (a b n : ℕ) → a ≡ b + 1 → nat_lt a (n + 1) ≡ nat_lt b n
one-more a b n more = go (nat_lt b n) refl
  where
    go : (c : Bool) → nat_lt b n ≡ c → nat_lt a (n + 1) ≡ c
    go true is = grind (arith, nat_tests)
    go false is = grind (arith, nat_tests)

no-lower : (a b : ℕ) → a ≤ b → nat_lt b a ≡ false
no-lower a b le = grind (arith, nat_tests)

lower : (a b : ℕ) → a < b → nat_lt a b ≡ true
lower a b lt = grind (arith, nat_tests)

module _ (expire : Option ℕ) (s : Stock) (kept : IsStock s) (tickets : List (Ticket × Key)) (counted : AreCounted s tickets) where
  all : List (Key × Record)
  all = records_of expire s

  -- what holds of each slot's entry holds of the records
  each : (P : Key × Record → Type 0) → ((j : ℕ) (h : Held) → held_at s j ≡ Some h → P (keyed expire h)) → AllByRecursion P (records_of expire s)
  each P one = all-entries key_cmp exact_bytes P (map (option_map (keyed expire)) s.slots) (λ j e at. let b = held-from expire s kept j e at in subst P b.2 (one j b.0 b.1))

  tracked-at : (j : ℕ) (h : Held) → held_at s j ≡ Some h → is_tracked h.key tickets ≡ nat_lt 0 h.entry.refs
  tracked-at j h there = ap (λ n. nat_lt 0 n) (sym (counted j h there))

  -- with an empty queue all are tracked
  held-tracked : slice_get s.queue 0 ≡ None → (j : ℕ) (h : Held) → held_at s j ≡ Some h → is_tracked h.key tickets ≡ true
  held-tracked none j h there =
      tracked-at j h there ∙ some-tracked h.entry.refs (λ alone. let q = (kept.queued j).1 (record { held = h; there = there; alone = alone }) in nothing s.queue none q.0 q.1)
    where
      nothing : (queue : List ℕ) → slice_get queue 0 ≡ None → (k : ℕ) → k < length queue → ⊥
      nothing [] none k inside = omega (arith, inside)
      nothing (x ∷ xs) none k inside = none_some (sym none)

  pub all-held : slice_get s.queue 0 ≡ None → all_tracked tickets (records_of expire s) ≡ true
  all-held none = all-true (λ (e : Key × Record). is_tracked e.0 tickets) (records_of expire s) (each (λ (e : Key × Record). is_tracked e.0 tickets ≡ true) (held-tracked none))

  -- and a purge takes none
  pub purged-held : slice_get s.queue 0 ≡ None → (n : ℕ) → purged n tickets (records_of expire s) ≡ records_of expire s
  purged-held none n =
      filter-all (λ (e : Key × Record). not (is_purged n tickets (records_of expire s) e)) (records_of expire s)
      (each (λ (e : Key × Record). not (is_purged n tickets (records_of expire s) e) ≡ true) (λ j h there. ap (λ b. not (not b && nat_lt (count_older tickets (records_of expire s) h.entry.stamp) n)) (held-tracked none j h there)))

  -- nor does a purge of none
  pub purged-none : purged 0 tickets (records_of expire s) ≡ records_of expire s
  purged-none =
      filter-all (λ (e : Key × Record). not (is_purged 0 tickets (records_of expire s) e)) (records_of expire s)
      (each (λ (e : Key × Record). not (is_purged 0 tickets (records_of expire s) e) ≡ true) (λ j h there. ap (λ b. not (not (is_tracked h.key tickets) && b)) (none-below (count_older tickets (records_of expire s) h.entry.stamp)) ∙ left-out (is_tracked h.key tickets)))
    where
      left-out : (b : Bool) → not (not b && false) ≡ true
      left-out true = refl
      left-out false = refl

  module _ (rising : IsRising s s.queue) (front : ℕ) (first : slice_get s.queue 0 ≡ Some front) (f : IsFree s front) where
    free-front : is_tracked f.held.key tickets ≡ false
    free-front = tracked-at front f.held f.there ∙ ap (λ n. nat_lt 0 n) f.alone

    found-front : lookup (same_key f.held.key) (records_of expire s) ≡ Some (record_of expire f.held)
    found-front = lookup-at expire s kept front f.held f.there

    pub some-free : all_tracked tickets (records_of expire s) ≡ false
    some-free = not-all (same_key f.held.key) (λ (e : Key × Record). is_tracked e.0 tickets) (records_of expire s) (record_of expire f.held) found-front (λ k same. ap (λ key. is_tracked key tickets) (sym (same_key-exact f.held.key k same)) ∙ free-front)

    stamp-there : (j : ℕ) (h : Held) → held_at s j ≡ Some h → stamp_at s j ≡ h.entry.stamp
    stamp-there j h there = ap (λ (o : Option Held). option_map_or (λ (x : Held). x.entry.stamp) o 0) there

    before : (j : ℕ) (h : Held) → held_at s j ≡ Some h → h.entry.refs ≡ 0 → (j ≡ front) ⊎ (f.held.entry.stamp < h.entry.stamp)
    before j h there alone =
        let q = (kept.queued j).1 (record { held = h; there = there; alone = alone }) in
        elim (front-before s s.queue front first rising j q.0 q.1 q.2) [
          | inl same ↦ inl same
          | inr later ↦ inr (omega (arith, later, stamp-there j h there, stamp-there front f.held f.there))
        ]

    -- none that isn't tracked is older than the front
    none-older : ◌≡◌ {A = ℕ} (count_older tickets (records_of expire s) f.held.entry.stamp) 0
    none-older =
        count-none (λ (e : Key × Record). not (is_tracked e.0 tickets) && nat_lt e.1.stamp f.held.entry.stamp) (records_of expire s) (each (λ (e : Key × Record). not (is_tracked e.0 tickets) && nat_lt e.1.stamp f.held.entry.stamp ≡ false) (λ j h there.
        ap (λ b. not b && nat_lt h.entry.stamp f.held.entry.stamp) (tracked-at j h there) ∙ by_refs j h there (cases_eq h.entry.refs 0)))
      where
        by_refs : (j : ℕ) (h : Held) → held_at s j ≡ Some h → (h.entry.refs ≡ 0) ⊎ (h.entry.refs ≢ 0) → not (nat_lt 0 h.entry.refs) && nat_lt h.entry.stamp f.held.entry.stamp ≡ false
        by_refs j h there (inr some) = ap (λ b. not b && nat_lt h.entry.stamp f.held.entry.stamp) (some-tracked h.entry.refs some)
        by_refs j h there (inl alone) =
            ap (λ n. not (nat_lt 0 n) && nat_lt h.entry.stamp f.held.entry.stamp) alone
            ∙ (elim (before j h there alone) [
              | inl same ↦ (let one : f.held ≡ h = same_some (sym f.there ∙ ap (held_at s) (sym same) ∙ there) in let stamps : f.held.entry.stamp ≡ h.entry.stamp = ap (λ (x : Held). x.entry.stamp) one in no-lower f.held.entry.stamp h.entry.stamp (omega (arith, stamps)))
              | inr later ↦ no-lower f.held.entry.stamp h.entry.stamp (omega (arith, later))
            ])

    count-rest : (p : Key × Record → Bool) → count_by p (records_of expire s) ≡ count_by p (records_of expire (without_slot s front)) + cond (p (keyed expire f.held)) 1 0
    count-rest p =
        let stock : IsStock (without_slot s front) = removed s front kept (get_within s.slots front f.held f.there) in
        let all : count_by p (records_of expire s) ≡ count_by (λ o. option_map_or p o false) (map (option_map (keyed expire)) s.slots) = count-entries key_cmp nat_list_cmp_total p (map (option_map (keyed expire)) s.slots) (distinct-records expire s kept) in
        let few : count_by p (records_of expire (without_slot s front)) ≡ count_by (λ o. option_map_or p o false) (set (map (option_map (keyed expire)) s.slots) front None) =
        count-entries key_cmp nat_list_cmp_total p (map (option_map (keyed expire)) (without_slot s front).slots) (distinct-records expire (without_slot s front) stock)
        ∙ ap (count_by (λ (o : Option (Key × Record)). option_map_or p o false)) (map-set (option_map (keyed expire)) s.slots front None) in
        let one = count-set p (map (option_map (keyed expire)) s.slots) front (keyed expire f.held) (alone-at expire s kept front f.held f.there).within (shown-at expire s kept front f.held f.there) in
        omega (arith, all, few, one)

    -- one more is older than what was refreshed after the front
    older-rest : (n : ℕ) → f.held.entry.stamp < n → count_older tickets (records_of expire s) n ≡ count_older tickets (records_of expire (without_slot s front)) n + 1
    older-rest n later =
        let one : ◌≡◌ {A = ℕ} (cond (not (is_tracked f.held.key tickets) && nat_lt f.held.entry.stamp n) 1 0) 1 =
        ap (λ b. cond {A = ℕ} (not b && nat_lt f.held.entry.stamp n) 1 0) free-front ∙ ap (λ b. cond {A = ℕ} b 1 0) (lower f.held.entry.stamp n later) in
        let more : count_older tickets (records_of expire s) n ≡ count_older tickets (records_of expire (without_slot s front)) n + cond (not (is_tracked f.held.key tickets) && nat_lt f.held.entry.stamp n) 1 0 =
        count-rest (λ (e : Key × Record). not (is_tracked e.0 tickets) && nat_lt e.1.stamp n) in
        omega (arith, one, more)

    -- a purge takes the front, and of the rest what a purge of one less does
    goes-at : (n j : ℕ) (h : Held) → held_at s j ≡ Some h
        → not (is_purged (n + 1) tickets (records_of expire s) (keyed expire h)) ≡ not (same_key f.held.key h.key) && not (is_purged n tickets (records_of expire (without_slot s front)) (keyed expire h))
    goes-at n j h there = by_place (cases_eq j front)
      where
        apart-key : (j ≢ front) → (b : Bool) → same_key f.held.key h.key ≡ b → b ≡ false
        apart-key apart false is = refl
        apart-key apart true is = absurd (apart (kept.distinct j front h f.held there f.there (sym (same_key-exact f.held.key h.key is))))

        ranks : (h.entry.refs ≡ 0) ⊎ (h.entry.refs ≢ 0) → (j ≢ front)
            → not (nat_lt 0 h.entry.refs) && nat_lt (count_older tickets (records_of expire s) h.entry.stamp) (n + 1) ≡ not (nat_lt 0 h.entry.refs) && nat_lt (count_older tickets (records_of expire (without_slot s front)) h.entry.stamp) n
        ranks (inr some) apart =
            ap (λ b. not b && nat_lt (count_older tickets (records_of expire s) h.entry.stamp) (n + 1)) (some-tracked h.entry.refs some)
            ∙ sym (ap (λ b. not b && nat_lt (count_older tickets (records_of expire (without_slot s front)) h.entry.stamp) n) (some-tracked h.entry.refs some))
        ranks (inl alone) apart = elim (before j h there alone) [
          | inl same ↦ absurd (apart same)
          | inr later ↦ ap (λ b. not (nat_lt 0 h.entry.refs) && b) (one-more (count_older tickets (records_of expire s) h.entry.stamp) (count_older tickets (records_of expire (without_slot s front)) h.entry.stamp) n (older-rest h.entry.stamp later))
        ]

        by_place : (j ≡ front) ⊎ (j ≢ front)
            → not (is_purged (n + 1) tickets (records_of expire s) (keyed expire h)) ≡ not (same_key f.held.key h.key) && not (is_purged n tickets (records_of expire (without_slot s front)) (keyed expire h))
        by_place (inl same) =
            let one : f.held ≡ h = same_some (sym f.there ∙ ap (held_at s) (sym same) ∙ there) in
            subst (λ (x : Held). not (is_purged (n + 1) tickets (records_of expire s) (keyed expire x)) ≡ not (same_key f.held.key x.key) && not (is_purged n tickets (records_of expire (without_slot s front)) (keyed expire x))) one
            (ap (λ b. not (not b && nat_lt (count_older tickets (records_of expire s) f.held.entry.stamp) (n + 1))) free-front
            ∙ ap (λ m. not (nat_lt m (n + 1))) none-older
            ∙ ap not (lower 0 (n + 1) (omega arith))
            ∙ sym (ap (λ b. not b && not (is_purged n tickets (records_of expire (without_slot s front)) (keyed expire f.held))) (same_key-refl f.held.key)))
        by_place (inr apart) =
            ap (λ b. not (not b && nat_lt (count_older tickets (records_of expire s) h.entry.stamp) (n + 1))) (tracked-at j h there)
            ∙ ap not (ranks (cases_eq h.entry.refs 0) apart)
            ∙ sym (ap (λ b. not (not b && nat_lt (count_older tickets (records_of expire (without_slot s front)) h.entry.stamp) n)) (tracked-at j h there))
            ∙ sym (ap (λ b. not b && not (is_purged n tickets (records_of expire (without_slot s front)) (keyed expire h))) (apart-key apart (same_key f.held.key h.key) refl))

    pub purged-front : (n : ℕ) → purged (n + 1) tickets (records_of expire s) ≡ purged n tickets (records_of expire (without_slot s front))
    purged-front n =
        filter-same (λ (e : Key × Record). not (is_purged (n + 1) tickets (records_of expire s) e)) (λ (e : Key × Record). not (same_key f.held.key e.0) && not (is_purged n tickets (records_of expire (without_slot s front)) e)) (records_of expire s)
        (each (λ (e : Key × Record). not (is_purged (n + 1) tickets (records_of expire s) e) ≡ not (same_key f.held.key e.0) && not (is_purged n tickets (records_of expire (without_slot s front)) e)) (goes-at n))
        ∙ sym (filter-both (λ (e : Key × Record). not (same_key f.held.key e.0)) (λ (e : Key × Record). not (is_purged n tickets (records_of expire (without_slot s front)) e)) (records_of expire s))
        ∙ ap (filter (λ (e : Key × Record). not (is_purged n tickets (records_of expire (without_slot s front)) e))) (sym (records-without expire s kept front f.held f.there))

-- ---- room, as the definition has it
module _ (spec : Spec) (s : Stock) (kept : IsStock s) (rising : IsRising s s.queue) (sized : length s.slots ≡ spec.size) where
  pub roomy-below : held_count s < spec.size → IsRoomy spec s s
  roomy-below below = record {
    records = λ tickets counted. ap (λ b. cond b (Some (records_of spec.expire s)) (cond (spec.nopurge || all_tracked tickets (records_of spec.expire s)) None (Some (purged (purge_of spec) tickets (records_of spec.expire s)))))
        (lower (length (records_of spec.expire s)) spec.size (let same = records-length spec.expire s kept in omega (arith, same, below)));
    space = omega (arith, below, sized);
    left = record { fewer = λ slot held there. there; tracked = λ slot held there some. there; base = refl };
    stock = kept;
    rising = rising;
    columns = refl;
    newest = refl;
    size = refl;
  }

  no-space : spec.size ≤ held_count s → (tickets : List (Ticket × Key)) → room_in spec tickets (records_of spec.expire s) ≡ cond (spec.nopurge || all_tracked tickets (records_of spec.expire s)) None (Some (purged (purge_of spec) tickets (records_of spec.expire s)))
  no-space full tickets =
      ap (λ b. cond b (Some (records_of spec.expire s)) (cond (spec.nopurge || all_tracked tickets (records_of spec.expire s)) None (Some (purged (purge_of spec) tickets (records_of spec.expire s)))))
      (no-lower spec.size (length (records_of spec.expire s)) (let same = records-length spec.expire s kept in omega (arith, same, full)))

  pub full-kept : spec.size ≤ held_count s → spec.nopurge ≡ true → IsFull spec s
  full-kept full nopurge tickets counted = no-space full tickets ∙ ap (λ b. cond (b || all_tracked tickets (records_of spec.expire s)) None (Some (purged (purge_of spec) tickets (records_of spec.expire s)))) nopurge

  or-true : (b : Bool) → b || true ≡ true
  or-true true = refl
  or-true false = refl

  pub full-tracked : spec.size ≤ held_count s → slice_get s.queue 0 ≡ None → IsFull spec s
  full-tracked full none tickets counted =
      no-space full tickets
      ∙ ap (λ b. cond (spec.nopurge || b) None (Some (purged (purge_of spec) tickets (records_of spec.expire s)))) (all-held spec.expire s kept tickets counted none)
      ∙ ap (λ b. cond b None (Some (purged (purge_of spec) tickets (records_of spec.expire s)))) (or-true spec.nopurge)

  pub roomy-purged : 1 ≤ spec.purge → spec.size ≤ held_count s → spec.nopurge ≡ false → (front : ℕ) → slice_get s.queue 0 ≡ Some front → (new : Stock) → IsPurged spec.purge s new → IsRoomy spec s new
  roomy-purged some full nopurge front first new purge =
      let f : IsFree s front = (kept.queued front).0 (first-queued s.queue front first) in
      let same : length (records_of spec.expire s) ≡ held_count s = records-length spec.expire s kept in
      let fewer = purge.fewer some front first in
      let most : held_count s ≤ length s.slots = count_by-le-length _ s.slots in
      let size = purge.size in
      record {
        records = λ tickets counted.
            room-purged spec tickets (records_of spec.expire s) some (omega (arith, same, full)) nopurge (some-free spec.expire s kept tickets counted rising front first f)
            ∙ ap Some (purge.records spec.expire tickets counted);
        space = omega (arith, fewer, most, size);
        left = purge.left;
        stock = purge.stock;
        rising = purge.rising;
        columns = purge.columns;
        newest = purge.newest;
        size = purge.size;
      }
