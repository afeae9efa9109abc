use Rattle.std.proofs.Common.{◌≡◌, ◌≤◌, List, length}
use Rattle.rule_eval.specs.Left.{rules_size}
use Rattle.rule_eval.specs.Verdict.{rules_course}
use Rattle.rule_eval.specs.declared.wants.Answer.{Answer}
use Rattle.rule_eval.proofs.scan.scan_rules.Given as goal

-- the rules that are left have the course of all
abbrev pub invariant-loop-rule : goal.invariant-loop-rule
invariant-loop-rule l = record {
  course : (answers : List Answer) →
      rules_course l.case.setup.now l.case.samples l.rest l.case.slots answers ≡ rules_course l.case.setup.now l.case.samples l.rules l.case.slots answers;
  left : rules_size l.rest ≤ rules_size l.rules;
}

abbrev pub decreases-loop-rule : goal.decreases-loop-rule
decreases-loop-rule l = length l.rest
