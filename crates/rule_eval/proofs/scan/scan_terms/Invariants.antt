use Rattle.std.proofs.Common.{◌≡◌, ◌≤◌, Bool, length}
use Rattle.rule_eval.specs.Left.{criteria_in}
use Rattle.rule_eval.specs.Verdict.{Course, all_terms}
use Rattle.rule_eval.proofs.scan.scan_terms.Given as goal

-- what is left has the course of the whole
abbrev pub invariant-loop-term : goal.invariant-loop-term
invariant-loop-term l = record {
  course : (after : Bool → Course) →
      all_terms l.case.setup.now l.case.samples l.case.slots l.rest after ≡ all_terms l.case.setup.now l.case.samples l.case.slots l.terms after;
  left : criteria_in l.rest ≤ criteria_in l.terms;
}

abbrev pub decreases-loop-term : goal.decreases-loop-term
decreases-loop-term l = length l.rest
