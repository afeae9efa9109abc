-- What a contract sees of a `Store`: what each slot has, the queue of those that no reference holds, and what each slot
-- had at the base.
use Rattle.std.specs.Prelude.{◌≡◌, ◌≢◌, ℕ, ◌==◌, ◌↔◌, if◌then◌else◌, List, [], ◌∷◌, ◌++◌, replicate, get_or, slice_set, nat_eq, Option, Some, None, is_some, count_by, map}
use Rattle.std.specs.Option.{option_map}
use Rattle.std.specs.List.{Contains, IsDistinct}
use Rattle.entry_pool.specs.declared.slot_handle.Handle.{Handle}
use Rattle.stored_data.specs.declared.stored_set.Column.{Column}
use Rattle.stored_data.specs.declared.values.StoredValue.{StoredValue}
use Rattle.expiry_order.specs.Queue.{without}
use Rattle.stick_pooled.specs.declared.entry.Entry.{Entry}
use Rattle.stick_pooled.specs.declared.entry.Kept.{Kept}
use Rattle.stick_pooled.specs.declared.entry.Point.{Point}
use Rattle.stick_pooled.specs.declared.entry.Point.TheVariants.{Now, Base}

-- an entry: its key, the generation of its handle, and what is kept of it
pub record Held : Type 0 where
  pub key : List ℕ
  pub generation : ℕ
  pub entry : Entry
  pub values : List StoredValue

-- the columns, the greatest generation used, each slot's entry or nothing, the slots of entries that no reference holds,
-- in the order in which they came to the back, and the entry that each slot had at the base, or nothing
pub record Stock : Type 0 where
  pub columns : List Column
  pub newest : ℕ
  pub slots : List (Option Held)
  pub queue : List ℕ
  pub base : List (Option Kept)

abbrev pub stock : List Column → ℕ → List (Option Held) → List ℕ → List (Option Kept) → Stock
stock columns newest slots queue base = record { columns = columns; newest = newest; slots = slots; queue = queue; base = base }

-- no entry, in so many slots, and none at the base
abbrev pub empty : ℕ → List Column → Stock
empty size columns = stock columns 0 (replicate size None) [] (replicate size None)

-- what the slot has
abbrev pub held_at : Stock → ℕ → Option Held
held_at s slot = get_or s.slots slot None

-- the key of a slot's entry
abbrev pub key_in : Option Held → List ℕ
key_in None = []
key_in (Some held) = held.key

-- what the slot had at the base
abbrev pub kept_at : Stock → ℕ → Option Kept
kept_at s slot = get_or s.base slot None

-- how many slots have an entry
abbrev pub held_count : Stock → ℕ
held_count s = count_by is_some s.slots

-- the key's entry is in the handle's slot, under its generation
pub record IsAt (s : Stock) (key : List ℕ) (handle : Handle) : Type 0 where
  pub held : Held
  pub there : held_at s handle.slot ≡ Some held
  pub keyed : held.key ≡ key
  pub dated : held.generation ≡ handle.generation

-- no slot has the key's entry
abbrev pub IsAbsent : Stock → List ℕ → Type 0
IsAbsent s key = (slot : ℕ) (held : Held) → held_at s slot ≡ Some held → held.key ≢ key

-- the slot has an entry that no reference holds
pub record IsFree (s : Stock) (slot : ℕ) : Type 0 where
  pub held : Held
  pub there : held_at s slot ≡ Some held
  pub alone : held.entry.refs ≡ 0

-- what every store keeps: no two slots have one key, and the queue has each slot whose entry no reference holds, once
pub record IsStock (s : Stock) : Type 0 where
  pub distinct : (i j : ℕ) (d e : Held) → held_at s i ≡ Some d → held_at s j ≡ Some e → d.key ≡ e.key → i ≡ j
  pub once : IsDistinct nat_eq s.queue
  pub queued : (slot : ℕ) → Contains s.queue slot ↔ IsFree s slot

-- ---- what the calls do

-- the slot has this, and the queue is that
abbrev pub with_slot : Stock → ℕ → Option Held → List ℕ → Stock
with_slot s slot o queue = stock s.columns s.newest (slice_set s.slots slot o) queue s.base

-- the queue, where a slot that wasn't there has an entry with so many references
abbrev pub entered : List ℕ → ℕ → ℕ → List ℕ
entered queue slot refs = if refs == 0 then queue ++ slot ∷ [] else queue

-- the store with one entry more, in a slot that had none
abbrev pub with_inserted : Stock → ℕ → Held → Stock
with_inserted s slot new = stock s.columns new.generation (slice_set s.slots slot (Some new)) (entered s.queue slot new.entry.refs) s.base

-- the store without the slot's entry
abbrev pub without_slot : Stock → ℕ → Stock
without_slot s slot = with_slot s slot None (without s.queue slot)

-- the store, where the slot's entry is this, and its slot at the back of the queue or, where a reference holds it, not in it
abbrev pub with_entry : Stock → ℕ → Entry → Stock
with_entry s slot entry = with_slot s slot (option_map (λ (held : Held). record held { entry = entry }) (held_at s slot)) (entered (without s.queue slot) slot entry.refs)

-- the store, where the slot's data are made others
abbrev pub with_values : Stock → ℕ → (List StoredValue → List StoredValue) → Stock
with_values s slot change = with_slot s slot (option_map (λ (held : Held). record held { values = change held.values }) (held_at s slot)) s.queue

-- what is kept of an entry for a base
abbrev pub kept_of : Held → Kept
kept_of held = record { key = held.key; stamp = held.entry.stamp; moment = held.entry.moment; values = held.values }

-- what each slot has, as it would be kept for a base, or what it had at the base
abbrev pub kept_slots : Point → Stock → List (Option Kept)
kept_slots Now s = map (option_map kept_of) s.slots
kept_slots Base s = s.base

-- no two of these slots have one key
abbrev pub AreDistinct : List (Option Kept) → Type 0
AreDistinct slots = (i j : ℕ) (d e : Kept) → get_or slots i None ≡ Some d → get_or slots j None ≡ Some e → d.key ≡ e.key → i ≡ j

-- the store, whose base is what it has now
abbrev pub with_base : Stock → Stock
with_base s = stock s.columns s.newest s.slots s.queue (map (option_map kept_of) s.slots)
