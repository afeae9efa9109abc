-- What a seat is told, as the answers of a port.
use Rattle.std.proofs.Common.{◌≡◌, ℕ, ◌∙◌, ap, refl, true, Option, Some, inr}
use Rattle.stick_model.specs.Key.{Key}
use Rattle.stick_model.specs.declared.events.Event.{Event}
use Rattle.stick_model.specs.declared.events.Event.TheVariants.{Track}
use Rattle.stick_model.specs.declared.replies.Refusal.{Refusal}
use Rattle.shard_record.specs.Views.{View}
use Rattle.shard_record.specs.Telling.{IsTold}
use Rattle.shard_port.specs.Port.{Tracks, came_with, is_tracking, place}
use Rattle.shard_book.specs.SeatState.{RefState, SeatState}
use Rattle.shard_book.specs.Told.{IsRefusedTo, Told}
use Rattle.shard_locks.specs.Ported.{SeatedRefuse, came, seated_meaning}
use Rattle.shard_locks.specs.Shared.{IsOfShard}
use Rattle.shard_locks.specs.ShardsState.{SeatedState, book_of}
use Rattle.shard_locks.specs.Tracking.{IsAt, reply_of}
use Rattle.shard_locks.specs.declared.tracking.Tracking.{Tracking}
use Rattle.shard_locks.specs.declared.tracking.Tracking.TheVariants.{Tracked, Full, NoRefs}

pub refused_key : (old : SeatedState) (shard : ℕ) (event : Event) (refusal : Refusal) → IsRefusedTo old.seat shard event refusal → SeatedRefuse old shard event refusal
refused_key old shard event refusal so = inr so

tracking_is : (tracking : Tracking RefState) → is_tracking (reply_of tracking) ≡ true
tracking_is (Tracked reference row) = refl
tracking_is Full = refl
tracking_is NoRefs = refl

came_is : (at : ℕ) (tracking : Tracking RefState) → IsAt at tracking → came tracking ≡ came_with seated_meaning at (reply_of tracking)
came_is at (Tracked reference row) is = ap (λ n. Some (record { shard = n; ticket = reference.ticket })) is
came_is at Full is = refl
came_is at NoRefs is = refl

pub tracks : (old : SeatedState) (seat : SeatState) (known : View) (now : ℕ) (key : Key) (tracking : Tracking RefState) (reference : Option RefState) → reference ≡ came tracking → Told old.seat (place seated_meaning old key) (Track now key) (reply_of tracking) seat
    → IsTold (book_of old.table (place seated_meaning old key)) (Track now key) (reply_of tracking) old.known known → IsOfShard old.table (place seated_meaning old key) known → IsAt (place seated_meaning old key) tracking → Tracks seated_meaning old now key reference (record { table = old.table; seat = seat; known = known })
tracks old seat known now key tracking reference is told recorded of_shard at = record {
  reply = reply_of tracking;
  tracking = tracking_is tracking;
  comes = is ∙ came_is (place seated_meaning old key) tracking at;
  answers = record { told = told; recorded = recorded; of_shard = of_shard; table = refl };
}
