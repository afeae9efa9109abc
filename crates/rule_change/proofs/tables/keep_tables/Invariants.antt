use Rattle.std.proofs.Common.{take, All}
use Rattle.rule_change.specs.Changes.{IsKept}
use Rattle.rule_change.proofs.tables.keep_tables.Given as goal

-- those so far are kept
abbrev pub invariant-loop-named : goal.invariant-loop-named
invariant-loop-named l = All (IsKept l.read) (take l.named-index l.first)
