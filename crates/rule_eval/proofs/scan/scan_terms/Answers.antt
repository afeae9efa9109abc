use Rattle.std.proofs.Common.{◌∙◌, sym, ap}
use Rattle.rule_eval.specs.Verdict.{all_terms, any_criterion}
use Rattle.rule_eval.specs.Course.{conjunction_end, criteria_end}
use Rattle.rule_eval.proofs.scan.scan_terms.Goals as goal

pub returns-in-Asks-clause-course : goal.returns-in-Asks-clause-course
returns-in-Asks-clause-course c =
    let setup = c.args.case.now.setup.now in
    let samples = c.args.case.now.samples in
    let slots = c.args.case.now.slots in (
      λ after.
          let end = conjunction_end setup samples slots c.args.conjunctions.now after in
          sym (c.loop-term.invariant.course end)
          ∙ ap (λ ts. all_terms setup samples slots ts end) c.in-Some.ensures.cases.0
          ∙ ap (λ cs. any_criterion setup samples slots cs (criteria_end setup samples slots c.in-Some.term.now.negated c.in-Some.more.now c.args.conjunctions.now after)) (sym c.as_slice-criteria.ensures)
          ∙ c.in-Asks.ensures.course.0 after,
      c.in-Asks.ensures.course.1,
    )
