use Rattle.std.proofs.Common.{◌≡◌, ◌-◌, ◌^◌, take, length, min}
use Rattle.std.specs.List.{sum_by}
use Rattle.rule_model.specs.declared.sections.Section.{Section}
use Rattle.rule_model.proofs.served.count_rules.Given as goal

abbrev pub invariant-loop-section : goal.invariant-loop-section
invariant-loop-section l = l.count ≡ min (2 ^ 64 - 1) (sum_by (λ (section : Section). length section.rules) (take l.section-index l.sections))
