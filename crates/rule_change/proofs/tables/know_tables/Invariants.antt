use Rattle.std.proofs.Common.{take, All}
use Rattle.rule_change.specs.Changes.{IsKnown}
use Rattle.rule_change.proofs.tables.know_tables.Given as goal

-- those so far are known
abbrev pub invariant-loop-named : goal.invariant-loop-named
invariant-loop-named l = All (IsKnown l.first) (take l.named-index l.read)
