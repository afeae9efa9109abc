use Rattle.std.proofs.Common.{◌≡◌, ◌≤◌, Bool, length}
use Rattle.rule_eval.specs.Verdict.{Course, any_criterion}
use Rattle.rule_eval.proofs.scan.scan_criteria.Given as goal

-- what is left has the course of the whole
abbrev pub invariant-loop-criterion : goal.invariant-loop-criterion
invariant-loop-criterion l = record {
  course : (after : Bool → Course) →
      any_criterion l.case.setup.now l.case.samples l.case.slots l.rest after ≡ any_criterion l.case.setup.now l.case.samples l.case.slots l.criteria after;
  left : length l.rest ≤ length l.criteria;
}

abbrev pub decreases-loop-criterion : goal.decreases-loop-criterion
decreases-loop-criterion l = length l.rest
