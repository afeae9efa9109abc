use Rattle.std.proofs.Common.{◌≡◌, take}
use Rattle.rule_change.proofs.equality.same_tables.Given as goal

abbrev pub invariant-loop-place : goal.invariant-loop-place
invariant-loop-place l = take l.place l.tables ≡ take l.place l.others
