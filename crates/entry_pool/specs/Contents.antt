-- What a contract sees of a `Pool`: a finite map from handles to values.
use Rattle.std.specs.Prelude.{◌≡◌, ℕ, ◌==◌, ◌≤◌, if◌then◌else◌, List, length, replicate, get_or, slice_set, Option, Some, None, is_some, count_by, refl}
use Rattle.std.specs.Coded.{Coded, code_by, coded×, coded_list, coded_option, coded_ℕ}
use Rattle.entry_pool.specs.declared.slot_handle.Handle.{Handle}

-- a live value, and the generation of its handle
pub record Entry (T : Type 0) : Type 0 where
  pub generation : ℕ
  pub value : T

-- how many values fit, the greatest generation used (0 at first), and each slot's entry or nothing
pub record Contents (T : Type 0) : Type 0 where
  pub capacity : ℕ
  pub newest : ℕ
  pub slots : List (Option (Entry T))

module _ {T : Type 0} where
  abbrev pub entry : ℕ → T → Entry T
  entry generation value = record { generation = generation; value = value }

  abbrev pub contents : ℕ → ℕ → List (Option (Entry T)) → Contents T
  contents capacity newest slots = record { capacity = capacity; newest = newest; slots = slots }

  abbrev pub entry_code : Coded T → Coded (Entry T)
  entry_code code = code_by (ℕ × T) (coded× coded_ℕ code) (λ e. (e.generation, e.value)) (λ p. entry p.0 p.1) (λ _. refl)

  abbrev pub contents_code : Coded T → Coded (Contents T)
  contents_code code =
      code_by
      (ℕ × (ℕ × List (Option (Entry T))))
      (coded× coded_ℕ (coded× coded_ℕ (coded_list (coded_option (entry_code code)))))
      (λ p. (p.capacity, (p.newest, p.slots)))
      (λ p. contents p.0 p.1.0 p.1.1)
      (λ _. refl)

  -- a pool with no value, where no generation was used
  abbrev pub empty : ℕ → Contents T
  empty capacity = contents capacity 0 (replicate capacity None)

  -- the slot's entry, if the slot has one
  abbrev pub entry_at : Contents T → ℕ → Option (Entry T)
  entry_at pool slot = get_or pool.slots slot None

  abbrev pub value_of_generation : ℕ → Option (Entry T) → Option T
  value_of_generation generation None = None
  value_of_generation generation (Some e) = if e.generation == generation then Some e.value else None

  -- the value that the handle finds
  abbrev pub find : Contents T → Handle → Option T
  find pool handle = value_of_generation handle.generation (entry_at pool handle.slot)

  -- the handle of the slot's entry
  abbrev pub handle_of : ℕ → Option (Entry T) → Option Handle
  handle_of slot None = None
  handle_of slot (Some e) = Some record { slot = slot; generation = e.generation }

  abbrev pub handle_at : Contents T → ℕ → Option Handle
  handle_at pool slot = handle_of slot (entry_at pool slot)

  -- how many values are live
  abbrev pub live_count : Contents T → ℕ
  live_count pool = count_by is_some pool.slots

  -- each slot has a value
  abbrev pub IsFull : Contents T → Type 0
  IsFull pool = live_count pool ≡ pool.capacity

  -- the pool with this entry at the handle's slot
  abbrev pub with_value : Contents T → Handle → T → Contents T
  with_value pool handle value = contents pool.capacity pool.newest (slice_set pool.slots handle.slot (Some (entry handle.generation value)))

  -- the pool after an insert that gave this handle
  abbrev pub with_inserted : Contents T → Handle → T → Contents T
  with_inserted pool handle value = contents pool.capacity handle.generation (slice_set pool.slots handle.slot (Some (entry handle.generation value)))

  -- the pool with nothing at the handle's slot
  abbrev pub without : Contents T → Handle → Contents T
  without pool handle = contents pool.capacity pool.newest (slice_set pool.slots handle.slot None)

  -- the handle's generation was used, and it finds nothing
  pub record IsGone (pool : Contents T) (handle : Handle) : Type 0 where
    pub used : handle.generation ≤ pool.newest
    pub nothing : find pool handle ≡ None

  -- the slots are as many as fit, and no entry's generation is above the greatest that was used
  pub record IsPool (pool : Contents T) : Type 0 where
    pub sized : length pool.slots ≡ pool.capacity
    pub dated : (slot : ℕ) (e : Entry T) → entry_at pool slot ≡ Some e → e.generation ≤ pool.newest
