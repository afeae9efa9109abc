-- On the parts of a store: what their slots show, and what a write of a slot in each of them leaves.
use Rattle.std.proofs.Common.{◌≡◌, ℕ, zero, suc, ◌<◌, ◌≤◌, inl, inr, cond, List, [], ◌∷◌, length, get_or, set, replicate, Option, Some, None, is_some, IsSome, count_by, refl, sym, ap, subst, ◌∙◌, arith}
use Rattle.std.specs.Option.{option_map}
use Rattle.std.proofs.lemmas.Bool.{cases_lt, eq-eqb}
use Rattle.std.proofs.lemmas.List.{set-get_or, length-set, get_or-replicate, get_or_past}
use Rattle.std.proofs.Math.ListN.{length-replicate}
use Rattle.std.specs.List.{IsDistinct}
use Rattle.stored_data.specs.Acts.{zero_of}
use Rattle.stored_data.specs.declared.stored_set.Column.{Column}
use Rattle.std.proofs.lemmas.Bool.{true≢false}
use Rattle.std.proofs.lemmas.List.Sums.{sum_by-cons}
use Rattle.entry_pool.specs.declared.slot_handle.Handle.{Handle}
use Rattle.stored_data.specs.declared.values.StoredValue.{StoredValue}
use Rattle.entry_pool.specs.Contents as Pools
use Rattle.entry_pool.specs.Contents.{Contents, entry_at}
use Rattle.key_index.specs.Keys as Indexes
use Rattle.key_index.specs.Keys.{Keys}
use Rattle.expiry_order.specs.Queue.{Queue, queue}
use Rattle.stick_pooled.specs.Grid.{Grid, with_row, row_at, zero_rows}
use Rattle.stick_pooled.specs.Stock.{Held, Stock, stock, held_at, held_count, IsAt, IsAbsent, IsStock, with_values, empty}
use Rattle.stick_pooled.specs.Parts.{held_in, slots_in, shown, AreParts}
use Rattle.stick_pooled.specs.declared.entry.Entry.{Entry}
use Rattle.stick_pooled.specs.declared.entry.Kept.{Kept}
use Rattle.entry_pool.proofs.SlotLemmas.{get_within}
use Rattle.stick_pooled.proofs.StockLemmas.{none_some, same_some}

abbrev P : Type 0
P = Option (Pools.Entry Entry)

abbrev K : Type 0
K = Option Indexes.Entry

abbrev pooled_under : P → Option ℕ
pooled_under = option_map (λ (e : Pools.Entry Entry). e.generation)

abbrev indexed_under : K → Option ℕ
indexed_under = option_map (λ (k : Indexes.Entry). k.generation)

-- ---- slots
slots-get : (ps : List P) (ks : List K) (rs : List (List StoredValue)) (at : ℕ) → length ks ≡ length ps → length rs ≡ length ps → get_or (slots_in ps ks rs) at None ≡ held_in (get_or ps at None) (get_or ks at None) (get_or rs at [])
slots-get [] ks rs at same other = refl
slots-get (p ∷ ps) [] rs at same other = absurd (omega (arith, same))
slots-get (p ∷ ps) (k ∷ ks) [] at same other = absurd (omega (arith, other))
slots-get (p ∷ ps) (k ∷ ks) (r ∷ rs) zero same other = refl
slots-get (p ∷ ps) (k ∷ ks) (r ∷ rs) (suc at) same other = slots-get ps ks rs at (omega (arith, same)) (omega (arith, other))

slots-set : (ps : List P) (ks : List K) (rs : List (List StoredValue)) (at : ℕ) (p : P) (k : K) (r : List StoredValue) → length ks ≡ length ps → length rs ≡ length ps → slots_in (set ps at p) (set ks at k) (set rs at r) ≡ set (slots_in ps ks rs) at (held_in p k r)
slots-set [] ks rs at p k r same other = refl
slots-set (q ∷ ps) [] rs at p k r same other = absurd (omega (arith, same))
slots-set (q ∷ ps) (j ∷ ks) [] at p k r same other = absurd (omega (arith, other))
slots-set (q ∷ ps) (j ∷ ks) (s ∷ rs) zero p k r same other = refl
slots-set (q ∷ ps) (j ∷ ks) (s ∷ rs) (suc at) p k r same other = ap (λ slots. held_in q j s ∷ slots) (slots-set ps ks rs at p k r (omega (arith, same)) (omega (arith, other)))

length-slots : (ps : List P) (ks : List K) (rs : List (List StoredValue)) → length ks ≡ length ps → length rs ≡ length ps → length (slots_in ps ks rs) ≡ length ps
length-slots [] ks rs same other = refl
length-slots (p ∷ ps) [] rs same other = absurd (omega (arith, same))
length-slots (p ∷ ps) (k ∷ ks) [] same other = absurd (omega (arith, other))
length-slots (p ∷ ps) (k ∷ ks) (r ∷ rs) same other = let rest = length-slots ps ks rs (omega (arith, same)) (omega (arith, other)) in omega (arith, rest)

held-some : (p : P) (k : K) (r : List StoredValue) → pooled_under p ≡ indexed_under k → is_some (held_in p k r) ≡ is_some p
held-some None k r same = refl
held-some (Some e) None r same = absurd (none_some (sym same))
held-some (Some e) (Some k) r same = refl

count-slots : (ps : List P) (ks : List K) (rs : List (List StoredValue)) → length ks ≡ length ps → length rs ≡ length ps → ((slot : ℕ) → pooled_under (get_or ps slot None) ≡ indexed_under (get_or ks slot None)) → count_by is_some (slots_in ps ks rs) ≡ count_by is_some ps
count-slots [] ks rs same other agree = refl
count-slots (p ∷ ps) [] rs same other agree = absurd (omega (arith, same))
count-slots (p ∷ ps) (k ∷ ks) [] same other agree = absurd (omega (arith, other))
count-slots (p ∷ ps) (k ∷ ks) (r ∷ rs) same other agree =
    let rest = count-slots ps ks rs (omega (arith, same)) (omega (arith, other)) (λ slot. agree (suc slot)) in
    let one : ◌≡◌ {A = ℕ} (cond (is_some (held_in p k r)) 1 0) (cond (is_some p) 1 0) = ap (λ b. cond {A = ℕ} b 1 0) (held-some p k r (agree 0)) in
    omega (arith, one, rest, sum_by-cons (λ (o : Option Held). cond (is_some o) 1 0) (held_in p k r) (slots_in ps ks rs), sum_by-cons (λ (o : P). cond (is_some o) 1 0) p ps)

agree-set : (ps : List P) (ks : List K) (at : ℕ) (p : P) (k : K) → length ks ≡ length ps → ((slot : ℕ) → pooled_under (get_or ps slot None) ≡ indexed_under (get_or ks slot None)) → pooled_under p ≡ indexed_under k
    → (slot : ℕ) → pooled_under (get_or (set ps at p) slot None) ≡ indexed_under (get_or (set ks at k) slot None)
agree-set [] [] at p k long agree same slot = refl
agree-set [] (j ∷ ks) at p k long agree same slot = absurd (omega (arith, long))
agree-set (q ∷ ps) [] at p k long agree same slot = absurd (omega (arith, long))
agree-set (q ∷ ps) (j ∷ ks) zero p k long agree same zero = same
agree-set (q ∷ ps) (j ∷ ks) zero p k long agree same (suc slot) = agree (suc slot)
agree-set (q ∷ ps) (j ∷ ks) (suc at) p k long agree same zero = agree 0
agree-set (q ∷ ps) (j ∷ ks) (suc at) p k long agree same (suc slot) = agree-set ps ks at p k (omega (arith, long)) (λ i. agree (suc i)) same slot

-- ---- what a store shows of a slot
-- what the parts have of a slot that has an entry
pub record IsMade (pool : Contents Entry) (index : Keys) (grid : Grid) (slot : ℕ) (held : Held) : Type 0 where
  pub in_pool : entry_at pool slot ≡ Some (record { generation = held.generation; value = held.entry })
  pub in_index : Indexes.entry_at index slot ≡ Some (record { key = held.key; generation = held.generation })
  pub in_rows : held.values ≡ get_or grid.rows slot []
  pub inside : slot < pool.capacity

module _ (pool : Contents Entry) (index : Keys) (order : Queue) (grid : Grid) (parts : AreParts pool index order grid) (base : List (Option Kept)) where
  same : length index.slots ≡ length pool.slots
  same = parts.indexed ∙ sym parts.pooled

  other : length grid.rows ≡ length pool.slots
  other = parts.rowed ∙ sym parts.pooled

  pub size : length (shown pool index order grid base).slots ≡ pool.capacity
  size = length-slots pool.slots index.slots grid.rows same other ∙ parts.pooled

  pub count : held_count (shown pool index order grid base) ≡ count_by is_some pool.slots
  count = count-slots pool.slots index.slots grid.rows same other parts.agree

  pub at : (slot : ℕ) → held_at (shown pool index order grid base) slot ≡ held_in (entry_at pool slot) (Indexes.entry_at index slot) (get_or grid.rows slot [])
  at slot = slots-get pool.slots index.slots grid.rows slot same other

  made-in : (p : P) (k : K) (r : List StoredValue) (h : Held) → pooled_under p ≡ indexed_under k → held_in p k r ≡ Some h
      → (p ≡ Some (record { generation = h.generation; value = h.entry })) × (k ≡ Some (record { key = h.key; generation = h.generation })) × (h.values ≡ r)
  made-in None k r h agree is = absurd (none_some is)
  made-in (Some e) None r h agree is = absurd (none_some is)
  made-in (Some e) (Some k) r h agree is =
      let parts_of = same_some is in
      let one : e.generation ≡ k.generation = same_some agree in (
        ap (λ (x : Held). Some (record { generation = x.generation; value = x.entry })) parts_of,
        ap (λ g. Some (record { key = k.key; generation = g })) (sym one) ∙ ap (λ (x : Held). Some (record { key = x.key; generation = x.generation })) parts_of,
        ap (λ (x : Held). x.values) (sym parts_of),
      )

  pub made : (slot : ℕ) (h : Held) → held_at (shown pool index order grid base) slot ≡ Some h → IsMade pool index grid slot h
  made slot h there =
      let m = made-in (entry_at pool slot) (Indexes.entry_at index slot) (get_or grid.rows slot []) h (parts.agree slot) (sym (at slot) ∙ there) in
      record { in_pool = m.0; in_index = m.1; in_rows = m.2; inside = subst (λ n. slot < n) parts.pooled (get_within pool.slots slot _ m.0) }

  -- a slot whose key the index has
  pub from_index : (slot : ℕ) (k : Indexes.Entry) → Indexes.entry_at index slot ≡ Some k → IsAt (shown pool index order grid base) k.key (record { slot = slot; generation = k.generation })
  from_index slot k is = by_pool (entry_at pool slot) refl (parts.agree slot ∙ ap indexed_under is)
    where
      by_pool : (p : P) → entry_at pool slot ≡ p → pooled_under (entry_at pool slot) ≡ Some k.generation → IsAt (shown pool index order grid base) k.key (record { slot = slot; generation = k.generation })
      by_pool None free agree = absurd (none_some (sym (ap pooled_under free) ∙ agree))
      by_pool (Some e) full agree = record {
        held = record { key = k.key; generation = e.generation; entry = e.value; values = get_or grid.rows slot [] };
        there = at slot ∙ ap (λ p. held_in p (Indexes.entry_at index slot) (get_or grid.rows slot [])) full ∙ ap (λ i. held_in (Some e) i (get_or grid.rows slot [])) is;
        keyed = refl;
        dated = same_some (sym (ap pooled_under full) ∙ agree);
      }

  pub found : (key : List ℕ) (handle : Handle) → Indexes.MapsTo index key handle → IsAt (shown pool index order grid base) key handle
  found key handle is = from_index handle.slot (Indexes.entry key handle.generation) is

  pub absent : (key : List ℕ) → Indexes.IsAbsent index key → IsAbsent (shown pool index order grid base) key
  absent key none slot h there keyed = let m = made slot h there in none slot (h.generation, m.in_index ∙ ap (λ k. Some (record { key = k; generation = h.generation })) keyed)

  pub absent_back : (key : List ℕ) → IsAbsent (shown pool index order grid base) key → Indexes.IsAbsent index key
  absent_back key none slot has = let f = found key (record { slot = slot; generation = has.0 }) has.1 in none slot f.held f.there f.keyed

  -- a slot with nothing
  pub none_held : (slot : ℕ) → entry_at pool slot ≡ None → held_at (shown pool index order grid base) slot ≡ None
  none_held slot free = at slot ∙ ap (λ p. held_in p (Indexes.entry_at index slot) (get_or grid.rows slot [])) free

  pub none_indexed : (slot : ℕ) → entry_at pool slot ≡ None → Indexes.entry_at index slot ≡ None
  none_indexed slot free = by_key (Indexes.entry_at index slot) (sym (ap pooled_under free) ∙ parts.agree slot)
    where
      by_key : (k : K) → None ≡ indexed_under k → k ≡ None
      by_key None agree = refl
      by_key (Some k) agree = absurd (none_some agree)

  -- the handle of a slot
  pub handle_is : (slot : ℕ) → Pools.handle_at pool slot ≡ option_map (λ (held : Held). record { slot = slot; generation = held.generation }) (held_at (shown pool index order grid base) slot)
  handle_is slot = by_slot (entry_at pool slot) (Indexes.entry_at index slot) (parts.agree slot) ∙ sym (ap (option_map (λ (held : Held). record { slot = slot; generation = held.generation })) (at slot))
    where
      by_slot : (p : P) (k : K) → pooled_under p ≡ indexed_under k → Pools.handle_of slot p ≡ option_map (λ (held : Held). record { slot = slot; generation = held.generation }) (held_in p k (get_or grid.rows slot []))
      by_slot None k agree = refl
      by_slot (Some e) None agree = absurd (none_some (sym agree))
      by_slot (Some e) (Some k) agree = refl

  -- a slot that has an entry has one that can be named
  pub some_held : (slot : ℕ) → IsSome (held_at (shown pool index order grid base) slot) → (h : Held) × (held_at (shown pool index order grid base) slot ≡ Some h)
  some_held slot some = by_slot (held_at (shown pool index order grid base) slot) refl some
    where
      by_slot : (o : Option Held) → held_at (shown pool index order grid base) slot ≡ o → IsSome o → (h : Held) × (held_at (shown pool index order grid base) slot ≡ Some h)
      by_slot None is some = absurd (true≢false (sym some))
      by_slot (Some h) is some = (h, is)

  -- ---- what is left after a write
  pub parts_insert : (handle : Handle) (value : Entry) (key : List ℕ) (row : List StoredValue) (queue : List ℕ)
      → AreParts (Pools.with_inserted pool handle value) (Indexes.with_key index key handle) (record { capacity = order.capacity; slots = queue }) (with_row grid handle.slot row)
  parts_insert handle value key row queue = record {
    pooled = length-set pool.slots handle.slot _ ∙ parts.pooled;
    indexed = length-set index.slots handle.slot _ ∙ parts.indexed;
    rowed = length-set grid.rows handle.slot _ ∙ parts.rowed;
    ordered = parts.ordered;
    agree = agree-set pool.slots index.slots handle.slot _ _ same parts.agree refl;
  }

  pub shown_insert : (handle : Handle) (value : Entry) (key : List ℕ) (row : List StoredValue) (queue : List ℕ)
      → shown (Pools.with_inserted pool handle value) (Indexes.with_key index key handle) (record { capacity = order.capacity; slots = queue }) (with_row grid handle.slot row) base
      ≡ stock grid.columns handle.generation (set (shown pool index order grid base).slots handle.slot (Some (record { key = key; generation = handle.generation; entry = value; values = row }))) queue base
  shown_insert handle value key row queue = ap (λ slots. stock grid.columns handle.generation slots queue base) (slots-set pool.slots index.slots grid.rows handle.slot _ _ row same other)

  pub parts_remove : (handle : Handle) (queue : List ℕ) → AreParts (Pools.without pool handle) (Indexes.without_slot index handle.slot) (record { capacity = order.capacity; slots = queue }) grid
  parts_remove handle queue = record {
    pooled = length-set pool.slots handle.slot _ ∙ parts.pooled;
    indexed = length-set index.slots handle.slot _ ∙ parts.indexed;
    rowed = parts.rowed;
    ordered = parts.ordered;
    agree = agree-set pool.slots index.slots handle.slot None None same parts.agree refl;
  }

  pub shown_remove : (handle : Handle) (queue : List ℕ) → shown (Pools.without pool handle) (Indexes.without_slot index handle.slot) (record { capacity = order.capacity; slots = queue }) grid base
      ≡ stock grid.columns pool.newest (set (shown pool index order grid base).slots handle.slot None) queue base
  shown_remove handle queue = ap (λ slots. stock grid.columns pool.newest slots queue base)
      (ap (λ rows. slots_in (set pool.slots handle.slot None) (set index.slots handle.slot None) rows) (sym (set-get_or grid.rows handle.slot []))
      ∙ slots-set pool.slots index.slots grid.rows handle.slot None None (get_or grid.rows handle.slot []) same other)

  pub parts_entry : (handle : Handle) (h : Held) (value : Entry) (queue : List ℕ) → held_at (shown pool index order grid base) handle.slot ≡ Some h → h.generation ≡ handle.generation
      → AreParts (Pools.with_value pool handle value) index (record { capacity = order.capacity; slots = queue }) grid
  parts_entry handle h value queue there dated = record {
    pooled = length-set pool.slots handle.slot _ ∙ parts.pooled;
    indexed = parts.indexed;
    rowed = parts.rowed;
    ordered = parts.ordered;
    agree = λ slot.
        agree-set pool.slots index.slots handle.slot (Some (Pools.entry handle.generation value)) (get_or index.slots handle.slot None) same parts.agree
        (ap Some (sym dated) ∙ sym (ap indexed_under (made handle.slot h there).in_index)) slot
        ∙ ap (λ ks. indexed_under (get_or ks slot None)) (set-get_or index.slots handle.slot None);
  }

  pub shown_entry : (handle : Handle) (h : Held) (value : Entry) (queue : List ℕ) → held_at (shown pool index order grid base) handle.slot ≡ Some h → h.generation ≡ handle.generation
      → shown (Pools.with_value pool handle value) index (record { capacity = order.capacity; slots = queue }) grid base
      ≡ stock grid.columns pool.newest (set (shown pool index order grid base).slots handle.slot (option_map (λ (held : Held). record held { entry = value }) (held_at (shown pool index order grid base) handle.slot))) queue base
  shown_entry handle h value queue there dated =
      let m = made handle.slot h there in
      let k : Indexes.Entry = record { key = h.key; generation = h.generation } in
      let new : Option (Pools.Entry Entry) = Some (Pools.entry handle.generation value) in
      ap (λ slots. stock grid.columns pool.newest slots queue base)
      (ap (λ rows. slots_in (set pool.slots handle.slot new) index.slots rows) (sym (set-get_or grid.rows handle.slot []))
      ∙ ap (λ ks. slots_in (set pool.slots handle.slot new) ks (set grid.rows handle.slot (get_or grid.rows handle.slot []))) (sym (set-get_or index.slots handle.slot None))
      ∙ slots-set pool.slots index.slots grid.rows handle.slot new (get_or index.slots handle.slot None) (get_or grid.rows handle.slot []) same other
      ∙ ap (λ o. set (shown pool index order grid base).slots handle.slot o)
      (ap (λ i. held_in new i (get_or grid.rows handle.slot [])) m.in_index
      ∙ ap (λ g. held_in (Some (Pools.entry g value)) (Some k) (get_or grid.rows handle.slot [])) (sym dated)
      ∙ ap (λ (row : List StoredValue). Some (record h { entry = value; values = row })) (sym m.in_rows)
      ∙ sym (ap (option_map (λ (held : Held). record held { entry = value })) there)))

  pub parts_row : (slot : ℕ) (row : List StoredValue) → AreParts pool index order (with_row grid slot row)
  parts_row slot row = record {
    pooled = parts.pooled;
    indexed = parts.indexed;
    rowed = length-set grid.rows slot _ ∙ parts.rowed;
    ordered = parts.ordered;
    agree = parts.agree;
  }

  pub shown_row : (slot : ℕ) (h : Held) (change : List StoredValue → List StoredValue) → held_at (shown pool index order grid base) slot ≡ Some h
      → shown pool index order (with_row grid slot (change (row_at grid slot))) base ≡ with_values (shown pool index order grid base) slot change
  shown_row slot h change there =
      let m = made slot h there in
      ap (λ slots. stock grid.columns pool.newest slots order.slots base)
      (ap (λ ps. slots_in ps index.slots (set grid.rows slot (change (row_at grid slot)))) (sym (set-get_or pool.slots slot None))
      ∙ ap (λ ks. slots_in (set pool.slots slot (get_or pool.slots slot None)) ks (set grid.rows slot (change (row_at grid slot)))) (sym (set-get_or index.slots slot None))
      ∙ slots-set pool.slots index.slots grid.rows slot (get_or pool.slots slot None) (get_or index.slots slot None) (change (row_at grid slot)) same other
      ∙ ap (λ o. set (shown pool index order grid base).slots slot o)
      (ap (λ p. held_in p (get_or index.slots slot None) (change (row_at grid slot))) m.in_pool
      ∙ ap (λ i. held_in (Some (record { generation = h.generation; value = h.entry })) i (change (row_at grid slot))) m.in_index
      ∙ ap (λ (row : List StoredValue). Some (record h { values = change row })) (sym m.in_rows)
      ∙ sym (ap (option_map (λ (held : Held). record held { values = change held.values })) there)))

-- ---- the same of what is seen
module _ (pool : Contents Entry) (index : Keys) (order : Queue) (grid : Grid) (parts : AreParts pool index order grid) (base : List (Option Kept)) (s : Stock) (is : shown pool index order grid base ≡ s) where
  held : (slot : ℕ) → IsSome (held_at s slot) → (h : Held) × (held_at (shown pool index order grid base) slot ≡ Some h)
  held slot some = some_held pool index order grid parts base slot (subst (λ (x : Stock). IsSome (held_at x slot)) (sym is) some)

  there_too : (slot : ℕ) (h : Held) → held_at s slot ≡ Some h → held_at (shown pool index order grid base) slot ≡ Some h
  there_too slot h there = ap (λ (x : Stock). held_at x slot) is ∙ there

  pub indexed_some : (slot : ℕ) → IsSome (held_at s slot) → IsSome (Indexes.entry_at index slot)
  indexed_some slot some = let h = held slot some in ap is_some (made pool index order grid parts base slot h.0 h.1).in_index

  pub in_grid : (slot : ℕ) → IsSome (held_at s slot) → slot < length grid.rows
  in_grid slot some = let h = held slot some in subst (λ n. slot < n) (sym parts.rowed) (made pool index order grid parts base slot h.0 h.1).inside

  pub values_are : (slot : ℕ) (h : Held) → held_at s slot ≡ Some h → row_at grid slot ≡ h.values
  values_are slot h there = sym (made pool index order grid parts base slot h (there_too slot h there)).in_rows

  pub key_is : (slot : ℕ) (key : List ℕ) → IsSome (held_at s slot) → Indexes.HasKey index slot key → option_map (λ (h : Held). h.key) (held_at s slot) ≡ Some key
  key_is slot key some has =
      let h = held slot some in
      let m = made pool index order grid parts base slot h.0 h.1 in
      let one : h.0.key ≡ key = ap (λ (k : Indexes.Entry). k.key) (same_some (sym m.in_index ∙ has.1)) in
      ap (λ (x : Stock). option_map (λ (h : Held). h.key) (held_at x slot)) (sym is) ∙ ap (option_map (λ (h : Held). h.key)) h.1 ∙ ap Some one

  handle_from : (slot : ℕ) (h : Held) (handle : Handle) → held_at (shown pool index order grid base) slot ≡ Some h → Indexes.handle_at index slot ≡ Some handle → record { slot = slot; generation = h.generation } ≡ handle
  handle_from slot h handle there named = let m = made pool index order grid parts base slot h there in same_some (sym (ap (Indexes.handle_in slot) m.in_index) ∙ named)

  pub find_from : (slot : ℕ) (h : Held) → held_at (shown pool index order grid base) slot ≡ Some h → Pools.find pool (record { slot = slot; generation = h.generation }) ≡ Some h.entry
  find_from slot h there =
      let m = made pool index order grid parts base slot h there in
      ap (Pools.value_of_generation h.generation) m.in_pool ∙ ap (λ b. cond b (Some h.entry) None) (eq-eqb h.generation h.generation refl)

  -- the handle that the index has of a slot finds its entry
  pub handle_finds : (slot : ℕ) (handle : Handle) → IsSome (held_at s slot) → Indexes.handle_at index slot ≡ Some handle → Pools.find pool handle ≡ option_map (λ (h : Held). h.entry) (held_at s slot)
  handle_finds slot handle some named =
      let h = held slot some in
      ap (Pools.find pool) (sym (handle_from slot h.0 handle h.1 named)) ∙ find_from slot h.0 h.1 ∙ sym (ap (option_map (λ (h : Held). h.entry)) h.1) ∙ ap (λ (x : Stock). option_map (λ (h : Held). h.entry) (held_at x slot)) is

-- ---- a new store
stock-empty : (size : ℕ) (columns : List Column) → IsStock (empty size columns)
unfolding IsDistinct
stock-empty size columns = record {
  distinct = λ i j d e one. absurd (nothing i d one);
  once = tt;
  queued = λ slot. ((λ h. absurd (omega (arith, h.1))), (λ f. absurd (nothing slot f.held f.there)));
}
  where
    nothing : (i : ℕ) (d : Held) → get_or (replicate size None) i None ≡ Some d → ⊥
    nothing i d one = elim (cases_lt i size) [
      | inl h ↦ none_some (sym (get_or-replicate size i None None h) ∙ one)
      | inr h ↦ none_some (sym (get_or_past (replicate size None) i None (subst (λ m. m ≤ i) (sym (length-replicate size None)) h)) ∙ one)
    ]

none-slots : (size : ℕ) (values : List StoredValue) → slots_in (replicate size None) (replicate size None) (replicate size values) ≡ replicate size None
none-slots zero values = refl
none-slots (suc size) values = ap (λ (slots : List (Option Held)). None ∷ slots) (none-slots size values)

agree-none : (n slot : ℕ) → pooled_under (get_or (replicate n None) slot None) ≡ indexed_under (get_or (replicate n None) slot None)
agree-none zero slot = refl
agree-none (suc n) zero = refl
agree-none (suc n) (suc slot) = agree-none n slot

empty-parts : (size : ℕ) (columns : List Column) → AreParts (Pools.empty size) (Indexes.no_keys size) (queue size []) (zero_rows size columns)
empty-parts size columns = record { pooled = length-replicate size None; indexed = length-replicate size None; rowed = length-replicate size (zero_of columns); ordered = refl; agree = agree-none size }

module _ (pool : Contents Entry) (index : Keys) (order : Queue) (grid : Grid) (size : ℕ) (columns : List Column) (p : pool ≡ Pools.empty size) (i : index ≡ Indexes.no_keys size) (o : order ≡ queue size []) (g : grid ≡ zero_rows size columns) where
  pub opened : shown pool index order grid (replicate size None) ≡ empty size columns
  opened = (λ t. shown (p t) (i t) (o t) (g t) (replicate size None)) ∙ ap (λ slots. stock columns 0 slots [] (replicate size None)) (none-slots size (zero_of columns))

  pub opened_parts : AreParts pool index order grid × IsStock (shown pool index order grid (replicate size None))
  opened_parts = (subst (λ (x : Contents Entry × Keys × Queue × Grid). AreParts x.0 x.1 x.2 x.3) (sym (λ t. (p t, i t, o t, g t))) (empty-parts size columns), subst IsStock (sym opened) (stock-empty size columns))

-- a handle that the index has of a slot is of that slot
pub handle_named : (index : Keys) (slot : ℕ) (handle : Handle) → Indexes.handle_at index slot ≡ Some handle → handle.slot ≡ slot
handle_named index slot handle named = by_key (Indexes.entry_at index slot) named
  where
    by_key : (k : K) → Indexes.handle_in slot k ≡ Some handle → handle.slot ≡ slot
    by_key None named = absurd (none_some named)
    by_key (Some k) named = ap (λ (x : Handle). x.slot) (sym (same_some named))
