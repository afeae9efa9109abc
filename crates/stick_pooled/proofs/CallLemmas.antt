-- What the calls that change a store leave: what is seen of its parts, and what they keep.
use Rattle.std.proofs.Common.{◌≡◌, ◌≢◌, ℕ, ◌<◌, List, length, set, Option, Some, None, is_some, IsSome, count_by, sym, ap, subst, ◌∙◌, arith}
use Rattle.std.specs.Option.{option_map}
use Rattle.std.specs.List.{Contains}
use Rattle.entry_pool.specs.declared.slot_handle.Handle.{Handle}
use Rattle.stored_data.specs.Acts.{zero_of}
use Rattle.stored_data.specs.declared.values.StoredValue.{StoredValue}
use Rattle.entry_pool.specs.Contents as Pools
use Rattle.entry_pool.specs.Contents.{Contents, entry_at}
use Rattle.key_index.specs.Keys as Indexes
use Rattle.key_index.specs.Keys.{Keys}
use Rattle.expiry_order.specs.Queue.{Queue, queue, without}
use Rattle.stick_pooled.specs.Grid.{Grid, with_row, row_at}
use Rattle.stick_pooled.specs.Stock.{Held, Stock, stock, held_at, held_count, IsAbsent, IsStock, entered, with_inserted, without_slot, with_entry, with_values}
use Rattle.stick_pooled.specs.Parts.{shown, AreParts}
use Rattle.stick_pooled.specs.declared.entry.Entry.{Entry}
use Rattle.stick_pooled.specs.declared.entry.Kept.{Kept}
use Rattle.stick_pooled.proofs.StockLemmas.{same_some, inserted, removed, refreshed, revalued, not_queued}
use Rattle.stick_pooled.proofs.PartLemmas.{size, count, made, absent_back, none_held, some_held, parts_insert, shown_insert, parts_remove, shown_remove, parts_entry, shown_entry, parts_row, shown_row, handle_named}

module _ (pool : Contents Entry) (index : Keys) (order : Queue) (grid : Grid) (parts : AreParts pool index order grid) (base : List (Option Kept)) (kept : IsStock (shown pool index order grid base)) (s : Stock) (is : shown pool index order grid base ≡ s) where
  old : Stock
  old = shown pool index order grid base

  -- ---- an insert
  pub index_absent : (key : List ℕ) → IsAbsent s key → Indexes.IsAbsent index key
  index_absent key none = absent_back pool index order grid parts base key (subst (λ (x : Stock). IsAbsent x key) (sym is) none)

  pub not_in_order : (slot : ℕ) → entry_at pool slot ≡ None → ¬ (Contains order.slots slot)
  not_in_order slot free = not_queued (shown pool index order grid base) slot kept (none_held pool index order grid parts base slot free)

  pub in_slots : (slot : ℕ) → slot < pool.capacity → slot < length s.slots
  in_slots slot inside = subst (λ n. slot < n) (sym (size pool index order grid parts base) ∙ ap (λ (x : Stock). length x.slots) is) inside

  pub nothing_held : (slot : ℕ) → entry_at pool slot ≡ None → held_at s slot ≡ None
  nothing_held slot free = sym (ap (λ (x : Stock). held_at x slot) is) ∙ none_held pool index order grid parts base slot free

  pub not_full : held_count s < length s.slots → Pools.IsFull pool → ⊥
  not_full room full =
      let counted : held_count s ≡ count_by is_some pool.slots = ap held_count (sym is) ∙ count pool index order grid parts base in
      let sized : length s.slots ≡ pool.capacity = ap (λ (x : Stock). length x.slots) (sym is) ∙ size pool index order grid parts base in
      omega (arith, room, full, counted, sized)

  module _ (handle : Handle) (value : Entry) (key : List ℕ) (pool' : Contents Entry) (index' : Keys) (order' : Queue) (grid' : Grid)
      (p : pool' ≡ Pools.with_inserted pool handle value) (i : index' ≡ Indexes.with_key index key handle)
      (o : order' ≡ queue order.capacity (entered order.slots handle.slot value.refs)) (g : grid' ≡ with_row grid handle.slot (zero_of grid.columns)) where
    new_held : Held
    new_held = record { key = key; generation = handle.generation; entry = value; values = zero_of grid.columns }

    pub inserted_old : shown pool' index' order' grid' base ≡ with_inserted (shown pool index order grid base) handle.slot (record { key = key; generation = handle.generation; entry = value; values = zero_of grid.columns })
    inserted_old = (λ t. shown (p t) (i t) (o t) (g t) base) ∙ shown_insert pool index order grid parts base handle value key (zero_of grid.columns) (entered order.slots handle.slot value.refs)

    pub insert_shown : shown pool' index' order' grid' base ≡ with_inserted s handle.slot (record { key = key; generation = handle.generation; entry = value; values = zero_of s.columns })
    insert_shown = inserted_old ∙ ap (λ (x : Stock). with_inserted x handle.slot (record { key = key; generation = handle.generation; entry = value; values = zero_of x.columns })) is

    pub insert_kept : entry_at pool handle.slot ≡ None → handle.slot < pool.capacity → IsAbsent s key → AreParts pool' index' order' grid' × IsStock (shown pool' index' order' grid' base)
    insert_kept free inside none = (
      subst (λ (x : Contents Entry × Keys × Queue × Grid). AreParts x.0 x.1 x.2 x.3) (sym (λ t. (p t, i t, o t, g t))) (parts_insert pool index order grid parts base handle value key (zero_of grid.columns) (entered order.slots handle.slot value.refs)),
      subst IsStock (sym inserted_old)
          (inserted (shown pool index order grid base) handle.slot (record { key = key; generation = handle.generation; entry = value; values = zero_of grid.columns }) kept (subst (λ n. handle.slot < n) (sym (size pool index order grid parts base)) inside)
          (none_held pool index order grid parts base handle.slot free) (subst (λ (x : Stock). IsAbsent x key) (sym is) none)),
    )

  -- ---- a removal
  pub queued_some : (slot : ℕ) → Contains s.queue slot → IsSome (held_at s slot)
  queued_some slot there =
      let f = (kept.queued slot).0 (subst (λ (x : Stock). Contains x.queue slot) (sym is) there) in
      subst (λ (x : Stock). IsSome (held_at x slot)) is (ap is_some f.there)

  slot_inside : (slot : ℕ) → IsSome (held_at s slot) → slot < length (shown pool index order grid base).slots
  slot_inside slot some =
      let h = some_held pool index order grid parts base slot (subst (λ (x : Stock). IsSome (held_at x slot)) (sym is) some) in
      subst (λ n. slot < n) (sym (size pool index order grid parts base)) (made pool index order grid parts base slot h.0 h.1).inside

  module _ (slot : ℕ) (handle : Handle) (some : IsSome (held_at s slot)) (named : Indexes.handle_at index slot ≡ Some handle) where
    at_slot : handle.slot ≡ slot
    at_slot = handle_named index slot handle named

    module _ (pool' : Contents Entry) (index' : Keys) (order' : Queue) (p : pool' ≡ Pools.without pool handle) (i : index' ≡ Indexes.without_slot index slot) (o : order' ≡ queue order.capacity (without order.slots slot)) where
      same_index : index' ≡ Indexes.without_slot index handle.slot
      same_index = i ∙ ap (Indexes.without_slot index) (sym at_slot)

      pub removed_old : shown pool' index' order' grid base ≡ without_slot (shown pool index order grid base) slot
      removed_old = (λ t. shown (p t) (same_index t) (o t) grid base) ∙ shown_remove pool index order grid parts base handle (without order.slots slot)
          ∙ ap (λ n. stock grid.columns pool.newest (set (shown pool index order grid base).slots n None) (without order.slots slot) base) at_slot

      pub remove_shown : shown pool' index' order' grid base ≡ without_slot s slot
      remove_shown = removed_old ∙ ap (λ (x : Stock). without_slot x slot) is

      pub remove_kept : AreParts pool' index' order' grid × IsStock (shown pool' index' order' grid base)
      remove_kept = (
        subst (λ (x : Contents Entry × Keys × Queue). AreParts x.0 x.1 x.2 grid) (sym (λ t. (p t, same_index t, o t))) (parts_remove pool index order grid parts base handle (without order.slots slot)),
        subst IsStock (sym removed_old) (removed (shown pool index order grid base) slot kept (slot_inside slot some)),
      )

    -- ---- another entry
    module _ (entry : Entry) (pool' : Contents Entry) (order' : Queue) (p : pool' ≡ Pools.with_value pool handle entry) (o : order' ≡ queue order.capacity (entered (without order.slots slot) slot entry.refs)) where
      h : (x : Held) × (held_at (shown pool index order grid base) slot ≡ Some x)
      h = some_held pool index order grid parts base slot (subst (λ (x : Stock). IsSome (held_at x slot)) (sym is) some)

      there : held_at (shown pool index order grid base) handle.slot ≡ Some h.0
      there = ap (held_at (shown pool index order grid base)) at_slot ∙ h.1

      dated : h.0.generation ≡ handle.generation
      dated = ap (λ (x : Handle). x.generation) (same_some (sym (ap (Indexes.handle_in slot) (made pool index order grid parts base slot h.0 h.1).in_index) ∙ named))

      pub refreshed_old : shown pool' index order' grid base ≡ with_entry (shown pool index order grid base) slot entry
      refreshed_old = (λ t. shown (p t) index (o t) grid base) ∙ shown_entry pool index order grid parts base handle h.0 entry (entered (without order.slots slot) slot entry.refs) there dated
          ∙ ap (λ n. stock grid.columns pool.newest (set (shown pool index order grid base).slots n (option_map (λ (held : Held). record held { entry = entry }) (held_at (shown pool index order grid base) n))) (entered (without order.slots slot) slot entry.refs) base) at_slot

      pub refresh_shown : shown pool' index order' grid base ≡ with_entry s slot entry
      refresh_shown = refreshed_old ∙ ap (λ (x : Stock). with_entry x slot entry) is

      pub refresh_kept : AreParts pool' index order' grid × IsStock (shown pool' index order' grid base)
      refresh_kept = (
        subst (λ (x : Contents Entry × Queue). AreParts x.0 index x.1 grid) (sym (λ t. (p t, o t))) (parts_entry pool index order grid parts base handle h.0 entry (entered (without order.slots slot) slot entry.refs) there dated),
        subst IsStock (sym refreshed_old) (refreshed (shown pool index order grid base) slot h.0 entry kept (slot_inside slot some) h.1),
      )

  -- whether the queue has a slot, by its entry
  pub leaves_inside : (slot : ℕ) (before : Entry) → option_map (λ (x : Held). x.entry) (held_at s slot) ≡ Some before → before.refs ≡ 0 → IsSome (held_at s slot) → Contains order.slots slot
  leaves_inside slot before named alone some =
      let h = some_held pool index order grid parts base slot (subst (λ (x : Stock). IsSome (held_at x slot)) (sym is) some) in
      let one : h.0.entry ≡ before = same_some (sym (ap (option_map (λ (x : Held). x.entry)) h.1) ∙ ap (λ (x : Stock). option_map (λ (x : Held). x.entry) (held_at x slot)) is ∙ named) in
      (kept.queued slot).1 (record { held = h.0; there = h.1; alone = ap (λ (e : Entry). e.refs) one ∙ alone })

  pub leaves_outside : (slot : ℕ) (before : Entry) → option_map (λ (x : Held). x.entry) (held_at s slot) ≡ Some before → before.refs ≢ 0 → ¬ (Contains order.slots slot)
  leaves_outside slot before named held queued =
      let f = (kept.queued slot).0 queued in
      let one : f.held.entry ≡ before = same_some (sym (ap (option_map (λ (x : Held). x.entry)) f.there) ∙ ap (λ (x : Stock). option_map (λ (x : Held). x.entry) (held_at x slot)) is ∙ named) in
      held (ap (λ (e : Entry). e.refs) (sym one) ∙ f.alone)

  -- ---- other data
  module _ (slot : ℕ) (change : List StoredValue → List StoredValue) (some : IsSome (held_at s slot)) (grid' : Grid) (g : grid' ≡ with_row grid slot (change (row_at grid slot))) where
    held_here : (x : Held) × (held_at (shown pool index order grid base) slot ≡ Some x)
    held_here = some_held pool index order grid parts base slot (subst (λ (x : Stock). IsSome (held_at x slot)) (sym is) some)

    pub changed_old : shown pool index order grid' base ≡ with_values (shown pool index order grid base) slot change
    changed_old = ap (λ (x : Grid). shown pool index order x base) g ∙ shown_row pool index order grid parts base slot held_here.0 change held_here.1

    pub change_shown : shown pool index order grid' base ≡ with_values s slot change
    change_shown = changed_old ∙ ap (λ (x : Stock). with_values x slot change) is

    pub change_kept : AreParts pool index order grid' × IsStock (shown pool index order grid' base)
    change_kept = (
      subst (AreParts pool index order) (sym g) (parts_row pool index order grid parts base slot (change (row_at grid slot))),
      subst IsStock (sym changed_old) (revalued (shown pool index order grid base) slot held_here.0 change kept (slot_inside slot some) held_here.1),
    )
