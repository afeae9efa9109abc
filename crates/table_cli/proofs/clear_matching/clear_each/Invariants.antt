use Rattle.std.proofs.Common.{◌≡◌}
use Rattle.table_cli.proofs.ClearingLemmas.{GoesOn}
use Rattle.table_cli.proofs.clear_matching.clear_each.Given as goal

-- what clearing the entries that are left comes to, with those so far, is what clearing all does
abbrev pub invariant-loop-row : goal.invariant-loop-row
invariant-loop-row g l =
    let K = g.K.Keeper in
    record {
      clears : GoesOn K.answers K.refuses l.moment (K.parts l.fn.keeper) l.fn.rows.items (K.state l.fn.keeper) l.row-iterator.rest.items (K.state l.keeper) l.stays;
      table : K.table l.keeper ≡ K.table l.fn.keeper;
      parts : K.parts l.keeper ≡ K.parts l.fn.keeper;
    }
