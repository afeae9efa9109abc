use Rattle.std.proofs.Common.{◌≡◌, ◌++◌}
use Rattle.table_cli.specs.OldestFirst.{beside}
use Rattle.table_cli.proofs.stamped.beside.Given as goal

-- the rows so far, and those to come beside the entries that are left
abbrev pub invariant-loop-row : goal.invariant-loop-row
invariant-loop-row l = l.all.items ++ beside l.row-iterator.rest.items l.left ≡ beside l.fn.rows l.entries
