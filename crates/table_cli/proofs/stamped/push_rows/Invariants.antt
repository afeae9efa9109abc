use Rattle.std.proofs.Common.{◌≡◌, ◌++◌, map}
use Rattle.table_cli.specs.OldestFirst.{row_of}
use Rattle.table_cli.proofs.stamped.push_rows.Given as goal

-- the rows so far, and those to come
abbrev pub invariant-loop-one : goal.invariant-loop-one
invariant-loop-one l = l.rows.items ++ map row_of l.one-iterator.rest.items ≡ l.fn.rows.items ++ map row_of l.fn.all.items
