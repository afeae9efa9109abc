use Rattle.std.proofs.Common.{◌≡◌, ◌++◌, map, take, drop}
use Rattle.rule_model.specs.Served.{named_with_purge}
use Rattle.rule_model.proofs.served.set_purges.Given as goal

-- The tables so far purge as told, and the others are as they were.
abbrev pub invariant-loop-named : goal.invariant-loop-named
invariant-loop-named l = l.tables ≡ map (named_with_purge l.purge) (take l.named-index l.fn.tables) ++ drop l.named-index l.fn.tables
