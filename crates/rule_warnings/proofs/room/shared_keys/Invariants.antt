use Rattle.std.proofs.Common.{◌≡◌, ◌+◌, ◌≤◌, false, drop}
use Rattle.std.specs.List.{count_by}
use Rattle.rule_model.specs.declared.rules.Rule.{Rule}
use Rattle.rule_warnings.specs.Limits.{tracks}
use Rattle.rule_warnings.proofs.room.shared_keys.Given as goal

-- those so far, and those of the rules that are left; so far there are no more than rules
abbrev pub invariant-loop-rule : goal.invariant-loop-rule
invariant-loop-rule l = record {
  rest : l.count + count_by (λ (rule : Rule). tracks false l.name rule.action) (drop l.rule-index l.rules) ≡ count_by (λ (rule : Rule). tracks false l.name rule.action) l.rules;
  within : l.count ≤ l.rule-index;
}
