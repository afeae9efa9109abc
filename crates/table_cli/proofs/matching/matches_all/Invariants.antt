use Rattle.std.proofs.Common.{◌≡◌, drop}
use Rattle.table_cli.specs.Matching.{matches_all}
use Rattle.table_cli.proofs.matching.matches_all.Given as goal

-- the row matches what is left where it matches the whole
abbrev pub invariant-loop-one : goal.invariant-loop-one
invariant-loop-one l = matches_all (drop l.one-index l.all) l.row ≡ matches_all l.all l.row
