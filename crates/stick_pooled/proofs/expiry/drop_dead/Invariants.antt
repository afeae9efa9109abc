use Rattle.std.proofs.Common.{◌≡◌, List, filter, length}
use Rattle.stick_model.specs.Key.{Key}
use Rattle.stick_model.specs.State.{stays}
use Rattle.stick_model.specs.declared.rows.Ticket.{Ticket}
use Rattle.stick_pooled.specs.Shown.{records_of, AreCounted, IsRising, IsLeft}
use Rattle.stick_pooled.proofs.expiry.drop_dead.Given as goal

-- What stays is what stays of all that were there.
abbrev pub invariant-loop-slot : goal.invariant-loop-slot
invariant-loop-slot l = record {
  records : (tickets : List (Ticket × Key)) → AreCounted l.fn.store tickets → filter (stays l.clock tickets) (records_of l.expire l.store) ≡ filter (stays l.clock tickets) (records_of l.expire l.fn.store);
  rising : IsRising l.store l.store.queue;
  left : IsLeft l.fn.store l.store;
  columns : l.store.columns ≡ l.fn.store.columns;
  newest : l.store.newest ≡ l.fn.store.newest;
  size : length l.store.slots ≡ length l.fn.store.slots;
}

abbrev pub decreases-loop-slot : goal.decreases-loop-slot
decreases-loop-slot l = length l.store.queue
