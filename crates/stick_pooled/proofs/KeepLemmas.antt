-- What the calls that change a store leave of its base, which is as it was.
use Rattle.std.proofs.Common.{◌≡◌, ℕ, ◌<◌, ◌≤◌, ◌^◌, List, [], length, get_or, set, map, replicate, Option, Some, None, is_some, IsSome, true, false, count_by, sym, ap, subst, refl, ◌∙◌, arith}
use Rattle.std.specs.Option.{option_map}
use Rattle.entry_pool.specs.declared.slot_handle.Handle.{Handle}
use Rattle.stored_data.specs.Acts.{zero_of}
use Rattle.stored_data.specs.Words.{width}
use Rattle.stored_data.specs.declared.stored_set.Column.{Column}
use Rattle.std.proofs.Math.ListN.{length-replicate}
use Rattle.std.proofs.lemmas.Bool.{false≢true, true≢false}
use Rattle.std.proofs.lemmas.List.{length-set}
use Rattle.std.proofs.lemmas.List.Sums.{count_by-le-length}
use Rattle.stored_data.specs.declared.values.StoredValue.{StoredValue}
use Rattle.entry_pool.specs.Contents as Pools
use Rattle.entry_pool.specs.Contents.{Contents, entry_at}
use Rattle.key_index.specs.Keys as Indexes
use Rattle.key_index.specs.Keys.{Keys}
use Rattle.expiry_order.specs.Queue.{Queue, queue, without}
use Rattle.stick_pooled.specs.Album.{Album, Picture, is_empty, no_pictures, picture_at, pictured as kept_as, with_empty, with_key}
use Rattle.stick_pooled.specs.Grid.{Grid, with_row, row_at, zero_rows}
use Rattle.stick_pooled.specs.Stock.{Held, Stock, held_at, kept_at, kept_of, empty, with_base, IsAbsent, IsStock, entered, with_inserted, without_slot, with_entry, with_values}
use Rattle.stick_pooled.specs.Parts.{held_in, slots_in, base_from, base_in, base_shown, shown, AreParts, IsAlbumOf, IsPictured, image_of}
use Rattle.stick_pooled.specs.declared.entry.Entry.{Entry}
use Rattle.stick_pooled.specs.declared.entry.Kept.{Kept}
use Rattle.stick_pooled.proofs.StockLemmas.{none_some, same_some}
use Rattle.stick_pooled.proofs.PartLemmas.{size, at, made, none_held, some_held, find_from, opened, opened_parts}
use Rattle.stick_pooled.proofs.BaseLemmas.{base-get, fresh-base, fresh-album, no-base, no-entry, inserted-album, inserted-base, needs_room, written-album, written-base, removed-album, removed-base}
use Rattle.stick_pooled.proofs.CallLemmas.{inserted_old, insert_shown, insert_kept, removed_old, remove_shown, remove_kept, refreshed_old, refresh_shown, refresh_kept, changed_old, change_shown, change_kept}

module _ (pool : Contents Entry) (index : Keys) (order : Queue) (grid : Grid) (a : Album) (parts : AreParts pool index order grid)
    (kept : IsStock (shown pool index order grid (base_shown pool index grid a)) × IsAlbumOf grid.columns (slots_in pool.slots index.slots grid.rows) a) (s : Stock) (is : shown pool index order grid (base_shown pool index grid a) ≡ s) where
  abbrev base : List (Option Kept)
  base = base_shown pool index grid a

  abbrev slots : List (Option Held)
  slots = slots_in pool.slots index.slots grid.rows

  -- what a slot has
  held : (slot : ℕ) → IsSome (held_at s slot) → (h : Held) × (held_at (shown pool index order grid (base_shown pool index grid a)) slot ≡ Some h)
  held slot some = some_held pool index order grid parts (base_shown pool index grid a) slot (subst (λ (x : Stock). IsSome (held_at x slot)) (sym is) some)

  inside : (slot : ℕ) (h : Held) → held_at (shown pool index order grid (base_shown pool index grid a)) slot ≡ Some h → slot < length slots
  inside slot h there = subst (λ n. slot < n) (sym (size pool index order grid parts (base_shown pool index grid a))) (made pool index order grid parts (base_shown pool index grid a) slot h there).inside

  pub album_inside : (slot : ℕ) → IsSome (held_at s slot) → slot < length a.places
  album_inside slot some = let h = held slot some in subst (λ n. slot < n) (sym kept.1.placed) (inside slot h.0 h.1)

  pub album_room : (slot : ℕ) → IsSome (held_at s slot) → picture_at a slot ≡ None → 0 < a.room
  album_room slot some none = let h = held slot some in needs_room grid.columns slots a kept.1 slot (inside slot h.0 h.1) h.0 h.1 none

  -- the image that was kept is that of what the slot has
  own : (slot : ℕ) (h : Held) (b : Album) → held_at (shown pool index order grid (base_shown pool index grid a)) slot ≡ Some h
      → ((handle : Handle) (entry : Entry) → Indexes.handle_at index slot ≡ Some handle → Pools.find pool handle ≡ Some entry → IsPictured grid.columns (row_at grid slot) entry slot a b)
      → IsPictured grid.columns h.values h.entry slot a b
  own slot h b there pictured =
      let m = made pool index order grid parts (base_shown pool index grid a) slot h there in
      subst (λ (values : List StoredValue). IsPictured grid.columns values h.entry slot a b) (sym m.in_rows)
      (pictured (record { slot = slot; generation = h.generation }) h.entry (ap (Indexes.handle_in slot) m.in_index)
      (find_from pool index order grid parts (base_shown pool index grid a) s is slot h there))

  -- the slots are these, and what they had at the base is known as before
  finish : (pool' : Contents Entry) (index' : Keys) (grid' : Grid) (b : Album) (after : List (Option Held)) → grid'.columns ≡ grid.columns → slots_in pool'.slots index'.slots grid'.rows ≡ after
      → IsAlbumOf grid.columns after b → base_in grid.columns b.places after ≡ base_shown pool index grid a
      → (base_shown pool' index' grid' b ≡ base_shown pool index grid a) × IsAlbumOf grid'.columns (slots_in pool'.slots index'.slots grid'.rows) b
  finish pool' index' grid' b after columns are album same = (
    (λ t. base_in (columns t) b.places (are t)) ∙ same,
    subst (λ (x : List _ × List (Option Held)). IsAlbumOf x.0 x.1 b) (sym (λ t. (columns t, are t))) album,
  )

  -- ---- an insert
  module _ (handle : Handle) (value : Entry) (key : List ℕ) (pool' : Contents Entry) (index' : Keys) (order' : Queue) (grid' : Grid) (b : Album)
      (p : pool' ≡ Pools.with_inserted pool handle value) (i : index' ≡ Indexes.with_key index key handle)
      (o : order' ≡ queue order.capacity (entered order.slots handle.slot value.refs)) (g : grid' ≡ with_row grid handle.slot (zero_of grid.columns)) (n : b ≡ with_empty a handle.slot)
      (free : entry_at pool handle.slot ≡ None) (within : handle.slot < pool.capacity) where
    abbrev new : Held
    new = record { key = key; generation = handle.generation; entry = value; values = zero_of grid.columns }

    insert_base : (base_shown pool' index' grid' b ≡ base_shown pool index grid a) × IsAlbumOf grid'.columns (slots_in pool'.slots index'.slots grid'.rows) b
    insert_base =
        let old = inserted_old pool index order grid parts (base_shown pool index grid a) kept.0 s is handle value key pool' index' order' grid' p i o g in
        let nothing = none_held pool index order grid parts (base_shown pool index grid a) handle.slot free in
        let below : handle.slot < length slots = subst (λ n. handle.slot < n) (sym (size pool index order grid parts (base_shown pool index grid a))) within in
        finish pool' index' grid' b (set slots handle.slot (Some new)) (ap (λ (x : Stock). x.columns) old) (ap (λ (x : Stock). x.slots) old)
        (subst (IsAlbumOf grid.columns (set slots handle.slot (Some new))) (sym n) (inserted-album grid.columns slots a kept.1 handle.slot below nothing new))
        (ap (λ (x : Album). base_in grid.columns x.places (set slots handle.slot (Some new))) n ∙ inserted-base grid.columns slots a kept.1 handle.slot below nothing new)

    pub insert_shown_base : shown pool' index' order' grid' (base_shown pool' index' grid' b) ≡ with_inserted s handle.slot (record { key = key; generation = handle.generation; entry = value; values = zero_of s.columns })
    insert_shown_base = ap (shown pool' index' order' grid') insert_base.0 ∙ insert_shown pool index order grid parts (base_shown pool index grid a) kept.0 s is handle value key pool' index' order' grid' p i o g

    pub insert_kept_base : IsAbsent s key → AreParts pool' index' order' grid' × (IsStock (shown pool' index' order' grid' (base_shown pool' index' grid' b)) × IsAlbumOf grid'.columns (slots_in pool'.slots index'.slots grid'.rows) b)
    insert_kept_base none =
        let k = insert_kept pool index order grid parts (base_shown pool index grid a) kept.0 s is handle value key pool' index' order' grid' p i o g free within none in
        (k.0, (subst (λ (x : List (Option Kept)). IsStock (shown pool' index' order' grid' x)) (sym insert_base.0) k.1, insert_base.1))

  -- ---- a slot that has an entry
  module _ (slot : ℕ) (some : IsSome (held_at s slot)) (b : Album)
      (pictured : (handle : Handle) (entry : Entry) → Indexes.handle_at index slot ≡ Some handle → Pools.find pool handle ≡ Some entry → IsPictured grid.columns (row_at grid slot) entry slot a b) where
    h : (x : Held) × (held_at (shown pool index order grid (base_shown pool index grid a)) slot ≡ Some x)
    h = held slot some

    pub album_still : (handle : Handle) → Indexes.handle_at index slot ≡ Some handle → slot < length b.places
    album_still handle named =
        let pic : IsPictured grid.columns h.0.values h.0.entry slot a b = own slot h.0 b h.1 pictured in
        let same : length b.places ≡ length a.places = ap (λ (x : Album). length x.places) pic.pictured ∙ length-set a.places slot (kept_as (image_of h.0.entry) pic.words (picture_at a slot)) in
        subst (λ n. slot < n) (sym same) (album_inside slot some)

    -- a removal
    module _ (handle : Handle) (named : Indexes.handle_at index slot ≡ Some handle) (pool' : Contents Entry) (index' : Keys) (order' : Queue) (c : Album) (key : List ℕ)
        (p : pool' ≡ Pools.without pool handle) (i : index' ≡ Indexes.without_slot index slot) (o : order' ≡ queue order.capacity (without order.slots slot)) (n : c ≡ with_key b slot key) (has : Indexes.HasKey index slot key) where
      own_key : h.0.key ≡ key
      own_key = let m = made pool index order grid parts (base_shown pool index grid a) slot h.0 h.1 in ap (λ (k : Indexes.Entry). k.key) (same_some (sym m.in_index ∙ has.1))

      is_c : c ≡ with_key b slot h.0.key
      is_c = n ∙ ap (with_key b slot) (sym own_key)

      remove_base : (base_shown pool' index' grid c ≡ base_shown pool index grid a) × IsAlbumOf grid.columns (slots_in pool'.slots index'.slots grid.rows) c
      remove_base =
          let old = removed_old pool index order grid parts (base_shown pool index grid a) kept.0 s is slot handle some named pool' index' order' p i o in
          let below = inside slot h.0 h.1 in
          let pic = own slot h.0 b h.1 pictured in
          finish pool' index' grid c (set slots slot None) (ap (λ (x : Stock). x.columns) old) (ap (λ (x : Stock). x.slots) old)
          (subst (IsAlbumOf grid.columns (set slots slot None)) (sym is_c) (removed-album grid.columns slots a kept.1 slot below h.0 h.1 b pic))
          (ap (λ (x : Album). base_in grid.columns x.places (set slots slot None)) is_c ∙ removed-base grid.columns slots a kept.1 slot below h.0 h.1 b pic)

      pub remove_shown_base : shown pool' index' order' grid (base_shown pool' index' grid c) ≡ without_slot s slot
      remove_shown_base = ap (shown pool' index' order' grid) remove_base.0 ∙ remove_shown pool index order grid parts (base_shown pool index grid a) kept.0 s is slot handle some named pool' index' order' p i o

      pub remove_kept_base : AreParts pool' index' order' grid × (IsStock (shown pool' index' order' grid (base_shown pool' index' grid c)) × IsAlbumOf grid.columns (slots_in pool'.slots index'.slots grid.rows) c)
      remove_kept_base =
          let k = remove_kept pool index order grid parts (base_shown pool index grid a) kept.0 s is slot handle some named pool' index' order' p i o in
          (k.0, (subst (λ (x : List (Option Kept)). IsStock (shown pool' index' order' grid x)) (sym remove_base.0) k.1, remove_base.1))

    -- another entry
    module _ (handle : Handle) (named : Indexes.handle_at index slot ≡ Some handle) (entry : Entry) (pool' : Contents Entry) (order' : Queue)
        (p : pool' ≡ Pools.with_value pool handle entry) (o : order' ≡ queue order.capacity (entered (without order.slots slot) slot entry.refs)) where
      refresh_base : (base_shown pool' index grid b ≡ base_shown pool index grid a) × IsAlbumOf grid.columns (slots_in pool'.slots index.slots grid.rows) b
      refresh_base =
          let old = refreshed_old pool index order grid parts (base_shown pool index grid a) kept.0 s is slot handle some named entry pool' order' p o in
          let below = inside slot h.0 h.1 in
          let pic = own slot h.0 b h.1 pictured in
          finish pool' index grid b (set slots slot (Some (record h.0 { entry = entry }))) (ap (λ (x : Stock). x.columns) old)
          (ap (λ (x : Stock). x.slots) old ∙ ap (λ o. set slots slot (option_map (λ (held : Held). record held { entry = entry }) o)) h.1)
          (written-album grid.columns slots a kept.1 slot below h.0 h.1 b pic (record h.0 { entry = entry }) refl)
          (written-base grid.columns slots a kept.1 slot below h.0 h.1 b pic (record h.0 { entry = entry }) refl)

      pub refresh_shown_base : shown pool' index order' grid (base_shown pool' index grid b) ≡ with_entry s slot entry
      refresh_shown_base = ap (shown pool' index order' grid) refresh_base.0 ∙ refresh_shown pool index order grid parts (base_shown pool index grid a) kept.0 s is slot handle some named entry pool' order' p o

      pub refresh_kept_base : AreParts pool' index order' grid × (IsStock (shown pool' index order' grid (base_shown pool' index grid b)) × IsAlbumOf grid.columns (slots_in pool'.slots index.slots grid.rows) b)
      refresh_kept_base =
          let k = refresh_kept pool index order grid parts (base_shown pool index grid a) kept.0 s is slot handle some named entry pool' order' p o in
          (k.0, (subst (λ (x : List (Option Kept)). IsStock (shown pool' index order' grid x)) (sym refresh_base.0) k.1, refresh_base.1))

    -- other data
    module _ (change : List StoredValue → List StoredValue) (grid' : Grid) (g : grid' ≡ with_row grid slot (change (row_at grid slot))) where
      change_base : (base_shown pool index grid' b ≡ base_shown pool index grid a) × IsAlbumOf grid'.columns (slots_in pool.slots index.slots grid'.rows) b
      change_base =
          let old = changed_old pool index order grid parts (base_shown pool index grid a) kept.0 s is slot change some grid' g in
          let below = inside slot h.0 h.1 in
          let pic = own slot h.0 b h.1 pictured in
          finish pool index grid' b (set slots slot (Some (record h.0 { values = change h.0.values }))) (ap (λ (x : Stock). x.columns) old)
          (ap (λ (x : Stock). x.slots) old ∙ ap (λ o. set slots slot (option_map (λ (held : Held). record held { values = change held.values }) o)) h.1)
          (written-album grid.columns slots a kept.1 slot below h.0 h.1 b pic (record h.0 { values = change h.0.values }) refl)
          (written-base grid.columns slots a kept.1 slot below h.0 h.1 b pic (record h.0 { values = change h.0.values }) refl)

      pub change_shown_base : shown pool index order grid' (base_shown pool index grid' b) ≡ with_values s slot change
      change_shown_base = ap (shown pool index order grid') change_base.0 ∙ change_shown pool index order grid parts (base_shown pool index grid a) kept.0 s is slot change some grid' g

      pub change_kept_base : AreParts pool index order grid' × (IsStock (shown pool index order grid' (base_shown pool index grid' b)) × IsAlbumOf grid'.columns (slots_in pool.slots index.slots grid'.rows) b)
      change_kept_base =
          let k = change_kept pool index order grid parts (base_shown pool index grid a) kept.0 s is slot change some grid' g in
          (k.0, (subst (λ (x : List (Option Kept)). IsStock (shown pool index order grid' x)) (sym change_base.0) k.1, change_base.1))

  -- ---- a new base
  module _ (b : Album) (room : ℕ) (n : b ≡ no_pictures (length a.places) a.width room) where
    fresh : base_shown pool index grid b ≡ map (option_map kept_of) slots
    fresh = fresh-base grid.columns slots (length a.places) a.width room b kept.1.placed n

    pub set_shown : shown pool index order grid (base_shown pool index grid b) ≡ with_base s
    set_shown = ap (shown pool index order grid) fresh ∙ ap with_base is

    pub set_kept : room ≡ pool.capacity → AreParts pool index order grid × (IsStock (shown pool index order grid (base_shown pool index grid b)) × IsAlbumOf grid.columns slots b)
    set_kept each = (
      parts,
      (
        record { distinct = kept.0.distinct; once = kept.0.once; queued = λ slot. ((λ h. let f = (kept.0.queued slot).0 h in record { held = f.held; there = f.there; alone = f.alone }), (λ f. (kept.0.queued slot).1 (record { held = f.held; there = f.there; alone = f.alone }))) },
        fresh-album grid.columns slots (length a.places) a.width room b kept.1.placed n kept.1.wide enough,
      ),
    )
      where
        enough : count_by is_some slots ≤ room
        enough =
            let most = count_by-le-length (λ (o : Option Held). is_some o) slots in
            let sized : length slots ≡ pool.capacity = size pool index order grid parts (base_shown pool index grid a) in
            omega (arith, most, sized, each)

  -- there are no more slots than this
  pub few_slots : (room : ℕ) → room ≡ pool.capacity → length s.slots ≤ 2 ^ 30 → room ≤ 2 ^ 30
  few_slots room each few =
      let sized : length slots ≡ pool.capacity = size pool index order grid parts (base_shown pool index grid a) in
      let same : length s.slots ≡ length slots = ap (λ (x : Stock). length x.slots) (sym is) in
      omega (arith, sized, same, each, few)

  -- ---- what a slot had
  pub kept_is : (slot : ℕ) → kept_at s slot ≡ base_from grid.columns (picture_at a slot) (held_at s slot)
  kept_is slot =
      ap (λ (x : Stock). kept_at x slot) (sym is) ∙ base-get grid.columns a.places slots slot kept.1.placed
      ∙ ap (λ (x : Stock). base_from grid.columns (picture_at a slot) (held_at x slot)) is

  pub same_keys : (slot : ℕ) → option_map (λ (e : Indexes.Entry). e.key) (Indexes.entry_at index slot) ≡ option_map (λ (held : Held). held.key) (held_at s slot)
  same_keys slot =
      by_parts (entry_at pool slot) (Indexes.entry_at index slot) (parts.agree slot)
      ∙ sym (ap (option_map (λ (held : Held). held.key)) (at pool index order grid parts (base_shown pool index grid a) slot))
      ∙ ap (λ (x : Stock). option_map (λ (held : Held). held.key) (held_at x slot)) is
    where
      by_parts : (p : Option (Pools.Entry Entry)) (k : Option Indexes.Entry) → option_map (λ (e : Pools.Entry Entry). e.generation) p ≡ option_map (λ (k : Indexes.Entry). k.generation) k
          → option_map (λ (e : Indexes.Entry). e.key) k ≡ option_map (λ (held : Held). held.key) (held_in p k (get_or grid.rows slot []))
      by_parts None None agree = refl
      by_parts None (Some k) agree = absurd (none_some agree)
      by_parts (Some e) None agree = absurd (none_some (sym agree))
      by_parts (Some e) (Some k) agree = refl

  pub kept_empty : (slot : ℕ) → is_empty (picture_at a slot) ≡ true → None ≡ kept_at s slot
  kept_empty slot empty = sym (kept_is slot ∙ by_picture (picture_at a slot) (held_at s slot) empty)
    where
      by_picture : (p : Option (Option Picture)) (live : Option Held) → is_empty p ≡ true → base_from grid.columns p live ≡ None
      by_picture None live empty = absurd (false≢true empty)
      by_picture (Some None) live empty = refl
      by_picture (Some (Some q)) live empty = absurd (false≢true empty)

  pub kept_live : (slot : ℕ) → is_some (picture_at a slot) ≡ false → option_map kept_of (held_at s slot) ≡ kept_at s slot
  kept_live slot none = sym (kept_is slot ∙ by_picture (picture_at a slot) (held_at s slot) none)
    where
      by_picture : (p : Option (Option Picture)) (live : Option Held) → is_some p ≡ false → base_from grid.columns p live ≡ option_map kept_of live
      by_picture None live none = refl
      by_picture (Some q) live none = absurd (true≢false none)

  -- what was copied of a picture
  pub kept_copied : (slot : ℕ) (kept : Kept) → is_some (picture_at a slot) ≡ true → is_empty (picture_at a slot) ≡ false
      → ((p : Picture) (live : Option Held) → picture_at a slot ≡ Some (Some p) → option_map (λ (e : Indexes.Entry). e.key) (Indexes.entry_at index slot) ≡ option_map (λ (held : Held). held.key) live
      → Some kept ≡ base_from grid.columns (Some (Some p)) live) → Some kept ≡ kept_at s slot
  kept_copied slot kept some full told = by_picture (picture_at a slot) refl some full
    where
      by_picture : (o : Option (Option Picture)) → picture_at a slot ≡ o → is_some o ≡ true → is_empty o ≡ false → Some kept ≡ kept_at s slot
      by_picture None is some full = absurd (false≢true some)
      by_picture (Some None) is some full = absurd (true≢false full)
      by_picture (Some (Some p)) is some full = told p (held_at s slot) is (same_keys slot) ∙ ap (λ o. base_from grid.columns o (held_at s slot)) (sym is) ∙ sym (kept_is slot)

  pub key_there : (slot : ℕ) (p : Picture) → picture_at a slot ≡ Some (Some p) → p.image.key ≡ None → IsSome (Indexes.entry_at index slot)
  key_there slot p there none =
      let h = some_held pool index order grid parts (base_shown pool index grid a) slot (kept.1.keyed slot p there none) in
      ap is_some (made pool index order grid parts (base_shown pool index grid a) slot h.0 h.1).in_index

-- ---- a new store
module _ (pool : Contents Entry) (index : Keys) (order : Queue) (grid : Grid) (a : Album) (size : ℕ) (columns : List Column) (wide : ℕ) (p : pool ≡ Pools.empty size) (i : index ≡ Indexes.no_keys size) (o : order ≡ queue size []) (g : grid ≡ zero_rows size columns)
    (n : a ≡ no_pictures size wide 0) (same : wide ≡ width grid.columns) where
  none : slots_in pool.slots index.slots grid.rows ≡ replicate size None
  none = ap (λ (x : Stock). x.slots) (opened pool index order grid size columns p i o g)

  long : size ≡ length (slots_in pool.slots index.slots grid.rows)
  long = sym (ap length none ∙ length-replicate size None)

  base_empty : base_shown pool index grid a ≡ replicate size None
  base_empty = fresh-base grid.columns (slots_in pool.slots index.slots grid.rows) size wide 0 a long n ∙ ap (map (option_map kept_of)) none ∙ no-base size

  pub opened_shown : shown pool index order grid (base_shown pool index grid a) ≡ empty size columns
  opened_shown = ap (shown pool index order grid) base_empty ∙ opened pool index order grid size columns p i o g

  pub opened_kept : AreParts pool index order grid × (IsStock (shown pool index order grid (base_shown pool index grid a)) × IsAlbumOf grid.columns (slots_in pool.slots index.slots grid.rows) a)
  opened_kept =
      let k = opened_parts pool index order grid size columns p i o g in (
        k.0,
        (
          subst (λ (x : List (Option Kept)). IsStock (shown pool index order grid x)) (sym base_empty) k.1,
          fresh-album grid.columns (slots_in pool.slots index.slots grid.rows) size wide 0 a long n same (let few : count_by is_some (slots_in pool.slots index.slots grid.rows) ≡ 0 = ap (count_by is_some) none ∙ no-entry size in omega (arith, few)),
        ),
      )
