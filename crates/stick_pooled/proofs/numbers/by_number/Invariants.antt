use Rattle.std.proofs.Common.{◌≡◌, ◌+◌, count_by, is_some}
use Rattle.std.specs.Ordering.{nat_cmp}
use Rattle.stick_pooled.specs.Slots.{entries_of}
use Rattle.stick_pooled.specs.Places.{numbered}
use Rattle.stick_pooled.proofs.FirstLemmas.{first}
use Rattle.stick_pooled.proofs.numbers.by_number.Given as goal

-- The map has what the places that were seen have, and so many are left in the others.
abbrev pub invariant-loop-place : goal.invariant-loop-place
invariant-loop-place l = record {
  entries : l.tickets.entries ≡ entries_of nat_cmp (first l.place (numbered 0 l.places.slots));
  left : l.left + count_by is_some (first l.place (numbered 0 l.places.slots)) ≡ count_by is_some (numbered 0 l.places.slots);
}
