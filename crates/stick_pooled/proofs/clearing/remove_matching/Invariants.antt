use Rattle.std.proofs.Common.{◌≡◌, ℕ, ◌<◌, false, not, List, filter, length, Option, Some}
use Rattle.stick_pooled.specs.Stock.{Held, IsStock, held_at}
use Rattle.stick_model.specs.Filters.{is_matched}
use Rattle.stick_model.specs.Key.{Key}
use Rattle.stick_model.specs.declared.rows.Ticket.{Ticket}
use Rattle.stick_pooled.specs.Seen.{is_meant_as}
use Rattle.stick_pooled.specs.Shown.{records_of, AreCounted, IsRising, IsLeft}
use Rattle.stick_pooled.proofs.clearing.remove_matching.Given as goal

-- What the filter leaves is what it leaves of all that were there, and it means nothing in the slots so far.
abbrev pub invariant-loop-slot : goal.invariant-loop-slot
invariant-loop-slot l = record {
  records : (tickets : List (Ticket × Key)) (expire : Option ℕ) → AreCounted l.fn.store tickets
      → filter (λ entry. not (is_matched l.clock tickets l.choice false entry)) (records_of expire l.store) ≡ filter (λ entry. not (is_matched l.clock tickets l.choice false entry)) (records_of expire l.fn.store);
  gone : (j : ℕ) (held : Held) → j < l.slot → held_at l.store j ≡ Some held → is_meant_as l.clock l.choice false held ≡ false;
  stock : IsStock l.store;
  rising : IsRising l.store l.store.queue;
  left : IsLeft l.fn.store l.store;
  columns : l.store.columns ≡ l.fn.store.columns;
  newest : l.store.newest ≡ l.fn.store.newest;
  slots : length l.store.slots ≡ length l.fn.store.slots;
}
