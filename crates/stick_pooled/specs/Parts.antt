-- How a `Store` lies in its parts. No public clause cites this module.
use Rattle.std.specs.Prelude.{◌≡◌, ℕ, ◌+◌, ◌≤◌, List, [], ◌∷◌, length, get_or, Option, Some, None, IsSome, unwrap_or}
use Rattle.std.specs.Option.{option_map}
use Rattle.stored_data.specs.Words.{fields_in, width}
use Rattle.stored_data.specs.declared.stored_set.Column.{Column}
use Rattle.stored_data.specs.declared.values.StoredValue.{StoredValue}
use Rattle.entry_pool.specs.Contents as Pools
use Rattle.entry_pool.specs.Contents.{Contents, entry_at}
use Rattle.key_index.specs.Keys as Indexes
use Rattle.key_index.specs.Keys.{Keys}
use Rattle.expiry_order.specs.Queue.{Queue}
use Rattle.stick_pooled.specs.Grid.{Grid}
use Rattle.stick_pooled.specs.Stock.{Held, Stock, stock, key_in, kept_of}
use Rattle.stick_pooled.specs.Album.{Album, Picture, picture_at, with_picture}
use Rattle.stick_pooled.specs.declared.entry.Entry.{Entry}
use Rattle.stick_pooled.specs.declared.entry.Kept.{Kept}
use Rattle.stick_pooled.specs.declared.slot_images.Image.{Image}

-- what a slot has: the pool's entry, the index's key and the row
abbrev pub held_in : Option (Pools.Entry Entry) → Option Indexes.Entry → List StoredValue → Option Held
held_in (Some e) (Some k) values = Some record { key = k.key; generation = e.generation; entry = e.value; values = values }
held_in _ _ values = None

abbrev pub slots_in : List (Option (Pools.Entry Entry)) → List (Option Indexes.Entry) → List (List StoredValue) → List (Option Held)
slots_in (e ∷ entries) (k ∷ keys) (row ∷ rows) = held_in e k row ∷ slots_in entries keys rows
slots_in _ _ _ = []

-- what a slot had at the base: what was kept of it, and else what it has
abbrev pub base_from : List Column → Option (Option Picture) → Option Held → Option Kept
base_from columns None live = option_map kept_of live
base_from columns (Some None) live = None
base_from columns (Some (Some p)) live = Some record { key = unwrap_or p.image.key (key_in live); stamp = p.image.stamp; moment = p.image.moment; values = fields_in columns p.words }

abbrev pub base_in : List Column → List (Option (Option Picture)) → List (Option Held) → List (Option Kept)
base_in columns (p ∷ places) (live ∷ slots) = base_from columns p live ∷ base_in columns places slots
base_in columns _ _ = []

-- what the parts show, with what the slots had at the base
abbrev pub shown : Contents Entry → Keys → Queue → Grid → List (Option Kept) → Stock
shown pool index order grid base = stock grid.columns pool.newest (slots_in pool.slots index.slots grid.rows) order.slots base

abbrev pub base_shown : Contents Entry → Keys → Grid → Album → List (Option Kept)
base_shown pool index grid album = base_in grid.columns album.places (slots_in pool.slots index.slots grid.rows)

-- the parts have slots of one number, and a slot that has an entry has a key, under one generation
pub record AreParts (pool : Contents Entry) (index : Keys) (order : Queue) (grid : Grid) : Type 0 where
  pub pooled : length pool.slots ≡ pool.capacity
  pub indexed : length index.slots ≡ pool.capacity
  pub rowed : length grid.rows ≡ pool.capacity
  pub ordered : order.capacity ≡ pool.capacity
  pub agree : (slot : ℕ) → option_map (λ (e : Pools.Entry Entry). e.generation) (entry_at pool slot) ≡ option_map (λ (k : Indexes.Entry). k.generation) (Indexes.entry_at index slot)

-- a slot may need an image yet: it has an entry, and nothing was kept of it
abbrev pub waits : Option (Option Picture) → Option Held → ℕ
waits None (Some held) = 1
waits _ _ = 0

abbrev pub waiting : List (Option (Option Picture)) → List (Option Held) → ℕ
waiting (p ∷ places) (live ∷ slots) = waits p live + waiting places slots
waiting _ _ = 0

-- the album is of these slots: pictures have the width of the columns, one with no key is of a slot that has it, and there
-- is room for as many more as slots may need
pub record IsAlbumOf (columns : List Column) (slots : List (Option Held)) (a : Album) : Type 0 where
  pub wide : a.width ≡ width columns
  pub placed : length a.places ≡ length slots
  pub keyed : (slot : ℕ) (p : Picture) → picture_at a slot ≡ Some (Some p) → p.image.key ≡ None → IsSome (get_or slots slot None)
  pub roomy : waiting a.places slots ≤ a.room

-- the image of an entry whose slot has its key
abbrev pub image_of : Entry → Image
image_of entry = record { stamp = entry.stamp; moment = entry.moment; key = None }

-- an image of the slot's entry was kept, if nothing was kept of it before
pub record IsPictured (columns : List Column) (values : List StoredValue) (entry : Entry) (slot : ℕ) (old new : Album) : Type 0 where
  pub words : List ℕ
  pub means : picture_at old slot ≡ None → fields_in columns words ≡ values
  pub pictured : new ≡ with_picture old slot (image_of entry) words
