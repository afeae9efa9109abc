-- What becomes of the references that a connection holds, once it ends.
use Rattle.std.specs.Prelude.{◌≡◌, ◌≢◌, ℕ, Bool, true, false, is_some, Option, Some, None, List, ◌++◌, slice_get}
use Rattle.std.specs.List.{list_any}
use Rattle.stick_model.specs.State.{same_ticket}
use Rattle.stick_model.specs.declared.rows.Ticket.{Ticket}
use Rattle.stick_model.specs.declared.events.Event.{Event}
use Rattle.stick_model.specs.declared.events.Event.TheVariants.{Release}
use Rattle.stick_model.specs.declared.replies.Refusal.{Refusal}
use Rattle.stick_model.specs.declared.replies.Reply.{Reply}
use Rattle.stick_model.specs.declared.replies.Reply.TheVariants.{Released}
use Rattle.shard_record.specs.declared.view.Call.{Call}
use Rattle.shard_book.specs.SeatState.{RefState}
use Rattle.shard_locks.specs.Ported.{SeatedRefuse}
use Rattle.shard_locks.specs.ShardsState.{SeatedState}
use Rattle.rule_model.specs.declared.actions.Slot.{Slot}
use Rattle.admit_core.specs.Conn.{progress_of}
use Rattle.admit_core.specs.Held.{held_at, nothing_held}
use Rattle.admit_core.specs.declared.conn.Conn.{Conn}
use Rattle.admit_core.specs.declared.held.Held.{Held}
use Rattle.admit_core.specs.declared.need.Phase.{Phase}
use Rattle.admit_core.specs.declared.need.Phase.TheVariants.{New, Judging, Admitted, Rejected, Ended}
use Rattle.tcp_relay.specs.Moments.{mine_at}

-- ---- when a connection ends

-- its rules have rejected it; or they have admitted it, and it is closed, with the bytes that are to be counted
abbrev pub ends_in : Phase → Option (ℕ × ℕ) → Bool
ends_in New bytes = false
ends_in Judging bytes = false
ends_in Admitted bytes = is_some bytes
ends_in Rejected bytes = true
ends_in Ended bytes = false

abbrev pub is_ending : Conn RefState → Bool
is_ending conn = ends_in (progress_of conn).phase (progress_of conn).bytes

-- ---- one reference

-- whether a call is the release of this ticket, and was answered so
abbrev pub released_by : Ticket → Event → Reply → Bool
released_by ticket (Release now other) Released = same_ticket ticket other
released_by ticket _ _ = false

abbrev pub is_release_of : Ticket → Call → Bool
is_release_of ticket one = released_by ticket one.event one.reply

-- it was released meanwhile: that is among the calls that the seat of its table has made since
pub record WasReleased (old new : List SeatedState) (entry : ℕ × RefState) : Type 0 where
  pub was : SeatedState
  pub was_at : slice_get old entry.0 ≡ Some was
  pub seat : SeatedState
  pub at : slice_get new entry.0 ≡ Some seat
  pub calls : List Call
  pub made : mine_at seat entry.1.shard ≡ mine_at was entry.1.shard ++ calls
  pub released : list_any (is_release_of entry.1.ticket) calls ≡ true

-- the seat of its table was refused its release
pub record WasRefused (now : ℕ) (seats : List SeatedState) (entry : ℕ × RefState) : Type 0 where
  pub seat : SeatedState
  pub at : slice_get seats entry.0 ≡ Some seat
  pub refusal : Refusal
  pub refused : SeatedRefuse seat entry.1.shard (Release now entry.1.ticket) refusal

-- ---- all that a connection holds

-- what a slot held before is there still, or was released; and what held nothing holds nothing
abbrev pub GoesBack : List SeatedState → List SeatedState → Option (ℕ × RefState) → Option (ℕ × RefState) → Type 0
GoesBack old new None after = after ≡ None
GoesBack old new (Some entry) None = WasReleased old new entry
GoesBack old new (Some entry) (Some kept) = kept ≡ entry

-- one that is there still whose release was refused
pub record IsKeptFor (now : ℕ) (seats : List SeatedState) (held : Held RefState) : Type 0 where
  pub slot : Slot
  pub entry : ℕ × RefState
  pub at : held_at held slot ≡ Some entry
  pub refused : WasRefused now seats entry

-- so of each slot; and one is there still only where a release was refused
pub record HasGivenBack (now : ℕ) (old new : List SeatedState) (before after : Held RefState) : Type 0 where
  pub each : (slot : Slot) → GoesBack old new (held_at before slot) (held_at after slot)
  pub kept : (slot : Slot) → is_some (held_at after slot) ≡ true → IsKeptFor now new after

-- a connection that ends has given back what it held before, or holds it still
abbrev pub GivesBack : ℕ → List SeatedState → List SeatedState → Held RefState → Held RefState → Type 0
GivesBack now old new before after = ∥ HasGivenBack now old new before after ∥₁

-- ---- in a place

-- what the connection there holds; nothing where there is none
abbrev pub held_there : {X : Type 0} → (X → Conn RefState) → Option (Option X) → Held RefState
held_there conn_of None = nothing_held
held_there conn_of (Some None) = nothing_held
held_there conn_of (Some (Some one)) = (progress_of (conn_of one)).held

-- whether the one there is open
abbrev pub is_open_there : {X : Type 0} → (X → Bool) → Option (Option X) → Bool
is_open_there is_open None = false
is_open_there is_open (Some None) = false
is_open_there is_open (Some (Some one)) = is_open one

-- all other places have what they had
abbrev pub OthersStay : {X : Type 0} → ℕ → List (Option X) → List (Option X) → Type 0
OthersStay place old new = (other : ℕ) → other ≢ place → slice_get new other ≡ slice_get old other
