use Rattle.std.proofs.Common.{◌≡◌, ◌≤◌, Bool, length}
use Rattle.rule_eval.specs.Left.{criteria_of}
use Rattle.rule_eval.specs.Verdict.{Course, any_conjunction}
use Rattle.rule_eval.proofs.scan.scan_conjunctions.Given as goal

-- what is left has the course of the whole
abbrev pub invariant-loop-terms : goal.invariant-loop-terms
invariant-loop-terms l = record {
  course : (after : Bool → Course) →
      any_conjunction l.case.setup.now l.case.samples l.case.slots l.rest after ≡ any_conjunction l.case.setup.now l.case.samples l.case.slots l.conjunctions after;
  left : criteria_of l.rest ≤ criteria_of l.conjunctions;
}

abbrev pub decreases-loop-terms : goal.decreases-loop-terms
decreases-loop-terms l = length l.rest
