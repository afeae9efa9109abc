use Rattle.std.proofs.Common.{◌≡◌, drop}
use Rattle.rule_warnings.specs.Limits.{turns_away}
use Rattle.rule_warnings.proofs.limits.turns_away.Given as goal

-- what the rules that are left turn away, all of them do
abbrev pub invariant-loop-rule : goal.invariant-loop-rule
invariant-loop-rule l = turns_away l.slot (drop l.rule-index l.rules) ≡ turns_away l.slot l.rules
