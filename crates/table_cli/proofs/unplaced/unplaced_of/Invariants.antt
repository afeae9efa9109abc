use Rattle.std.proofs.Common.{◌≡◌, ◌≤◌, drop, fold, map}
use Rattle.table_cli.specs.SeenLines.{seen_load}
use Rattle.table_cli.specs.Unplaced.{unplaced, with_fault}
use Rattle.table_cli.proofs.unplaced.unplaced_of.Given as goal

-- those so far, and those that are left
abbrev pub invariant-loop-found : goal.invariant-loop-found
invariant-loop-found l = record {
  told : fold (with_fault l.table) l.unplaced (map seen_load (drop l.found-index l.skipped)) ≡ unplaced l.table (map seen_load l.skipped);
  few : l.unplaced.entries ≤ l.found-index;
}
