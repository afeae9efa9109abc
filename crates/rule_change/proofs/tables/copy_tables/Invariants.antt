use Rattle.std.proofs.Common.{◌≡◌, take}
use Rattle.rule_change.proofs.tables.copy_tables.Given as goal

abbrev pub invariant-loop-named : goal.invariant-loop-named
invariant-loop-named l = l.copied ≡ take l.named-index l.tables
