use Rattle.std.proofs.Common.{◌≡◌, map, take}
use Rattle.admit_drive.specs.Tables.{empty_table_of, table_states}
use Rattle.admit_drive.proofs.open.open_tables.Given as goal

abbrev pub invariant-loop-named : goal.invariant-loop-named
invariant-loop-named g l = table_states l.tables.items ≡ map (empty_table_of l.setup.shards) (take l.named-index l.named-items)
