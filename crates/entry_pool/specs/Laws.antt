-- What every pool keeps, whatever is called on it.
use Rattle.std.specs.Prelude.{◌≡◌, ◌≢◌, List, Some}
use Rattle.entry_pool.specs.declared.slot_handle.Handle.{Handle}
use Rattle.entry_pool.specs.Contents.{Contents, find, with_inserted, IsGone, IsPool}
use Rattle.entry_pool.specs.Calls.{Call, IsGiven, IsCall, AreCalls, handle_of, after, after_all}

-- a handle that was used and finds nothing never finds a value again
abbrev pub GoneForEver : Type 0 → Type 0
GoneForEver T = (pool : Contents T) (calls : List (Call T)) (handle : Handle) → IsGone pool handle → AreCalls pool calls → IsGone (after_all pool calls) handle

-- the handle that an insert gave finds the value
abbrev pub InsertedIsFound : Type 0 → Type 0
InsertedIsFound T = (pool : Contents T) (handle : Handle) (value : T) → IsPool pool → IsGiven pool handle → find (with_inserted pool handle value) handle ≡ Some value

-- a call changes what its own handle finds, and no other
abbrev pub OthersStay : Type 0 → Type 0
OthersStay T = (pool : Contents T) (call : Call T) (other : Handle) → IsCall pool call → handle_of call ≢ other → find (after pool call) other ≡ find pool other
