use Rattle.std.proofs.Common.{◌≡◌, drop}
use Rattle.table_cli.specs.Matching.{value_shown}
use Rattle.table_cli.proofs.matching.value_shown.Given as goal

-- what is left shows what the whole does
abbrev pub invariant-loop-cell : goal.invariant-loop-cell
invariant-loop-cell l = value_shown (drop l.cell-index l.cells) l.field ≡ value_shown l.cells l.field
