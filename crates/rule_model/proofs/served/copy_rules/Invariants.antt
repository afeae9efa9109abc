use Rattle.std.proofs.Common.{◌≡◌, take}
use Rattle.rule_model.proofs.served.copy_rules.Given as goal

abbrev pub invariant-loop-rule : goal.invariant-loop-rule
invariant-loop-rule l = l.copied ≡ take l.rule-index l.rules
