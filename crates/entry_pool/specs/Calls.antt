-- What the calls on a pool do to it, one after another.
use Rattle.std.specs.Prelude.{◌≡◌, ◌<◌, List, [], ◌∷◌, None, IsSome}
use Rattle.entry_pool.specs.declared.slot_handle.Handle.{Handle}
use Rattle.entry_pool.specs.Contents.{Contents, entry_at, find, with_value, with_inserted, without}

-- a call that changes a pool: an insert that gave this handle, a write through `get_mut`, or a removal
pub data Call (T : Type 0) : Type 0 where
  inserted : Handle → T → Call T
  written : Handle → T → Call T
  removed : Handle → Call T

module _ {T : Type 0} where
  -- a handle that an insert may give: its generation is new, and its slot has no value
  pub record IsGiven (pool : Contents T) (handle : Handle) : Type 0 where
    pub newer : pool.newest < handle.generation
    pub within : handle.slot < pool.capacity
    pub free : entry_at pool handle.slot ≡ None

  abbrev pub IsCall : Contents T → Call T → Type 0
  IsCall pool (inserted handle value) = IsGiven pool handle
  IsCall pool (written handle value) = IsSome (find pool handle)
  IsCall pool (removed handle) = IsSome (find pool handle)

  abbrev pub handle_of : Call T → Handle
  handle_of (inserted handle value) = handle
  handle_of (written handle value) = handle
  handle_of (removed handle) = handle

  abbrev pub after : Contents T → Call T → Contents T
  after pool (inserted handle value) = with_inserted pool handle value
  after pool (written handle value) = with_value pool handle value
  after pool (removed handle) = without pool handle

  abbrev pub after_all : Contents T → List (Call T) → Contents T
  after_all pool [] = pool
  after_all pool (call ∷ calls) = after_all (after pool call) calls

  abbrev pub AreCalls : Contents T → List (Call T) → Type 0
  AreCalls pool [] = Unit {0}
  AreCalls pool (call ∷ calls) = IsCall pool call × AreCalls (after pool call) calls
