-- Room for one more entry.
use Rattle.std.specs.Prelude.{◌≡◌, ◌<◌, ◌≤◌, ℕ, List, length, slice_get, Option, Some, None}
use Rattle.stick_pooled.specs.Stock.{Stock, IsStock, held_count}
use Rattle.stick_model.specs.Key.{Key}
use Rattle.stick_model.specs.Room.{purged, room_in}
use Rattle.stick_model.specs.declared.rows.Ticket.{Ticket}
use Rattle.stick_model.specs.declared.specification.Spec.{Spec}
use Rattle.stick_pooled.specs.Shown.{records_of, AreCounted, IsRising, IsLeft}

-- a purge of so many: the rest of the records is what the definition leaves, and where one can go, one went at least
pub record IsPurged (purge : ℕ) (old new : Stock) : Type 0 where
  pub records : (expire : Option ℕ) (tickets : List (Ticket × Key)) → AreCounted old tickets → purged purge tickets (records_of expire old) ≡ records_of expire new
  pub fewer : 1 ≤ purge → (front : ℕ) → slice_get old.queue 0 ≡ Some front → held_count new < held_count old
  pub left : IsLeft old new
  pub stock : IsStock new
  pub rising : IsRising new new.queue
  pub columns : new.columns ≡ old.columns
  pub newest : new.newest ≡ old.newest
  pub size : length new.slots ≡ length old.slots

-- room was made: of the records that there were the rest is what the definition leaves, and a slot is free
pub record IsRoomy (spec : Spec) (old new : Stock) : Type 0 where
  pub records : (tickets : List (Ticket × Key)) → AreCounted old tickets → room_in spec tickets (records_of spec.expire old) ≡ Some (records_of spec.expire new)
  pub space : held_count new < length new.slots
  pub left : IsLeft old new
  pub stock : IsStock new
  pub rising : IsRising new new.queue
  pub columns : new.columns ≡ old.columns
  pub newest : new.newest ≡ old.newest
  pub size : length new.slots ≡ length old.slots

-- there is no room
abbrev pub IsFull : Spec → Stock → Type 0
IsFull spec s = (tickets : List (Ticket × Key)) → AreCounted s tickets → room_in spec tickets (records_of spec.expire s) ≡ None
