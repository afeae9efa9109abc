-- How a `Pool` lays out its slots. No public clause cites this module.
use Rattle.std.specs.Prelude.{◌≡◌, ℕ, zero, suc, ◌+◌, ◌-◌, ◌^◌, ◌<◌, ◌≤◌, ◌↔◌, List, length, get_or, slice_get, Option, Some, None, is_some, IsSome, count_by}
use Rattle.entry_pool.specs.Contents.{Entry, entry}
use Rattle.entry_pool.specs.declared.Live.{Live}
use Rattle.entry_pool.specs.declared.TheConstants.{FULL}
use Rattle.entry_pool.specs.declared.slot_handle.TheConstants.{NONE}

-- from this slot on, so many free slots each name the next, and the last names none
abbrev pub IsFreeChain : List ℕ → ℕ → ℕ → Type 0
IsFreeChain links zero slot = slot ≡ NONE
IsFreeChain links (suc count) slot = (next : ℕ) × (slice_get links slot ≡ Some next) × IsFreeChain links count next

-- so many free slots: each names the next, and the last names none
pub record AreAllFree (links : List ℕ) (count : ℕ) : Type 0 where
  pub sized : length links ≡ count
  pub next : (slot : ℕ) → slot + 1 < count → slice_get links slot ≡ Some (slot + 1)
  pub last : slice_get links (count - 1) ≡ Some NONE

module _ {T : Type 0} where
  -- what a slot shows
  abbrev pub shown : Option (Live T) → Option (Entry T)
  shown None = None
  shown (Some live) = Some (entry live.generation live.value)

  -- with another value
  abbrev pub refilled : Live T → T → Live T
  refilled live value = record { generation = live.generation; value = value }

  -- a slot's link tells whether it has a value
  abbrev pub IsTold : ℕ → Option (Live T) → Type 0
  IsTold link place = link ≡ FULL ↔ IsSome place

  pub record IsSound (places : List (Option (Live T))) (links : List ℕ) (capacity first_free count newest : ℕ) : Type 0 where
    pub small : capacity ≤ 2 ^ 30
    pub sized : length places ≡ capacity
    pub linked : length links ≡ capacity
    pub told : (slot : ℕ) → slot < capacity → IsTold (get_or links slot 0) (get_or places slot None)
    -- `count` counts the values, and the chain holds every free slot
    pub counted : count ≡ count_by is_some places
    pub free : ℕ
    pub total : count + free ≡ capacity
    pub chained : IsFreeChain links free first_free
    -- no generation is above `newest`
    pub dated : (slot : ℕ) (live : Live T) → get_or places slot None ≡ Some live → live.generation ≤ newest
