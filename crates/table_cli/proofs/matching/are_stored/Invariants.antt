use Rattle.std.proofs.Common.{◌≡◌, drop}
use Rattle.table_cli.specs.Matching.{are_stored}
use Rattle.table_cli.proofs.matching.are_stored.Given as goal

-- what is left is stored where the whole is
abbrev pub invariant-loop-one : goal.invariant-loop-one
invariant-loop-one l = are_stored l.columns (drop l.one-index l.all) ≡ are_stored l.columns l.all
