use Rattle.std.proofs.Common.{◌∙◌, sym, ap}
use Rattle.rule_eval.specs.Verdict.{all_terms, any_conjunction}
use Rattle.rule_eval.specs.Course.{conjunction_end}
use Rattle.rule_eval.proofs.scan.scan_conjunctions.Goals as goal

pub returns-in-Asks-clause-course : goal.returns-in-Asks-clause-course
returns-in-Asks-clause-course c =
    let setup = c.args.case.now.setup.now in
    let samples = c.args.case.now.samples in
    let slots = c.args.case.now.slots in (
      λ after.
          sym (c.loop-terms.invariant.course after)
          ∙ ap (λ cs. any_conjunction setup samples slots cs after) c.in-Some.ensures.cases.0
          ∙ ap (λ ts. all_terms setup samples slots ts (conjunction_end setup samples slots c.in-Some.more.now after)) (sym c.as_slice.ensures)
          ∙ c.in-Asks.ensures.course.0 after,
      c.in-Asks.ensures.course.1,
    )
