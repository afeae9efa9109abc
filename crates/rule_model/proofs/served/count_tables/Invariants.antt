use Rattle.std.proofs.Common.{◌≡◌, take, is_some}
use Rattle.std.specs.List.{count_by}
use Rattle.rule_model.specs.declared.sections.Section.{Section}
use Rattle.rule_model.proofs.served.count_tables.Given as goal

abbrev pub invariant-loop-section : goal.invariant-loop-section
invariant-loop-section l = l.count ≡ count_by (λ (section : Section). is_some section.table) (take l.section-index l.sections)
