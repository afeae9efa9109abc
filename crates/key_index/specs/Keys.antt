-- What a contract sees of an `Index`: a finite map from keys to handles.
use Rattle.std.specs.Prelude.{◌≡◌, ℕ, List, get_or, slice_set, replicate, length, Option, Some, None, refl}
use Rattle.entry_pool.specs.declared.slot_handle.Handle.{Handle}
use Rattle.std.specs.Coded.{Coded, code_by, coded×, coded_list, coded_option, coded_ℕ}

-- a key, and the generation of the handle that it has
pub record Entry : Type 0 where
  pub key : List ℕ
  pub generation : ℕ

-- each slot's key with its generation, or nothing
pub record Keys : Type 0 where
  pub slots : List (Option Entry)

abbrev pub entry : List ℕ → ℕ → Entry
entry key generation = record { key = key; generation = generation }

abbrev pub keys : List (Option Entry) → Keys
keys slots = record { slots = slots }

abbrev pub entry_code : Coded Entry
entry_code = code_by (List ℕ × ℕ) (coded× (coded_list coded_ℕ) coded_ℕ) (λ e. (e.key, e.generation)) (λ p. entry p.0 p.1) (λ _. refl)

abbrev pub keys_code : Coded Keys
keys_code = code_by (List (Option Entry)) (coded_list (coded_option entry_code)) (λ k. k.slots) keys (λ _. refl)

-- no key, in so many slots
abbrev pub no_keys : ℕ → Keys
no_keys capacity = keys (replicate capacity None)

-- what the slot has
abbrev pub entry_at : Keys → ℕ → Option Entry
entry_at index slot = get_or index.slots slot None

-- how many slots there are
abbrev pub capacity_of : Keys → ℕ
capacity_of index = length index.slots

-- the index maps the key to the handle
abbrev pub MapsTo : Keys → List ℕ → Handle → Type 0
MapsTo index key handle = entry_at index handle.slot ≡ Some (entry key handle.generation)

-- the handle that a slot's entry makes
abbrev pub handle_in : ℕ → Option Entry → Option Handle
handle_in slot None = None
handle_in slot (Some e) = Some record { slot = slot; generation = e.generation }

-- the handle of the slot's key
abbrev pub handle_at : Keys → ℕ → Option Handle
handle_at index slot = handle_in slot (entry_at index slot)

-- the slot has this key
abbrev pub HasKey : Keys → ℕ → List ℕ → Type 0
HasKey index slot key = (generation : ℕ) × (entry_at index slot ≡ Some (entry key generation))

-- no slot has this key
abbrev pub IsAbsent : Keys → List ℕ → Type 0
IsAbsent index key = (slot : ℕ) → ¬ (HasKey index slot key)

-- no two slots have one key
abbrev pub HasDistinctKeys : Keys → Type 0
HasDistinctKeys index = (i j : ℕ) (key : List ℕ) → HasKey index i key → HasKey index j key → i ≡ j

-- the index with this at the slot
abbrev pub with_entry : Keys → ℕ → Option Entry → Keys
with_entry index slot e = keys (slice_set index.slots slot e)

-- the index where the key, in the handle's slot, has the handle
abbrev pub with_key : Keys → List ℕ → Handle → Keys
with_key index key handle = with_entry index handle.slot (Some (entry key handle.generation))

-- the index where the slot has no key
abbrev pub without_slot : Keys → ℕ → Keys
without_slot index slot = with_entry index slot None
