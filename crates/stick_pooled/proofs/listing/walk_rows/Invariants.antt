use Rattle.std.proofs.Common.{◌≡◌, ◌++◌, drop}
use Rattle.stick_pooled.specs.Seen.{listed_in}
use Rattle.stick_pooled.proofs.listing.walk_rows.Given as goal

-- the rows so far, and those of the slots to come
abbrev pub invariant-loop-slot : goal.invariant-loop-slot
invariant-loop-slot l = record {
  rows : l.rows.rows ++ listed_in l.spec.columns l.spec.expire l.clock l.choice (drop l.slot l.store.slots) ≡ listed_in l.spec.columns l.spec.expire l.clock l.choice l.store.slots;
  columns : l.rows.columns ≡ l.spec.columns;
  clock : l.rows.clock ≡ l.clock;
}
