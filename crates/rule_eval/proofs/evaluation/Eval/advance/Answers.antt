use Rattle.std.proofs.Common.{◌∙◌, ap, sym, ◌∷◌}
use Rattle.rule_eval.specs.Course.{point_course}
use Rattle.rule_eval.specs.Eval.{remaining, slots_in}
use Rattle.rule_eval.proofs.Standing.{condition-answered, question_keeps}
use Rattle.rule_eval.proofs.evaluation.Eval.advance.Goals as goal

pub returns-else-not-answers_question-clause-course : goal.returns-else-not-answers_question-clause-course
unfolding remaining
returns-else-not-answers_question-clause-course c more =
    let case = c.args.self.now.case in
    let arm = c.in-Condition in
    c.after_place-self.ensures.course more
    ∙ sym (ap (λ point. point_course case.setup.now case.samples case.slots point (c.args.answer.now ∷ more)) arm.is
    ∙ condition-answered case.setup.now case.samples case.slots arm.question arm.place arm.rule.now arm.rules.now c.args.answer.now more
    (sym (c.answers_question.ensures case.setup.now case.samples) ∙ c.if-not-answers_question.false))

pub returns-else-not-answers_question-clause-slots : goal.returns-else-not-answers_question-clause-slots
unfolding remaining slots_in
returns-else-not-answers_question-clause-slots c =
    let case = c.args.self.now.case in
    rw c.in-Condition.is (sym (question_keeps case.setup.now case.samples case.slots c.in-Condition.question c.args.answer.now))
