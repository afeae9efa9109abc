use Rattle.rule_eval.proofs.Standing.{stands-more}
use Rattle.rule_eval.proofs.evaluation.Eval.hear.Goals as goal

pub returns-clause-stands : goal.returns-clause-stands
returns-clause-stands c = stands-more c.args.self.now c.advance.new.self c.args.answer.now c.advance.ensures.setup c.advance.ensures.course
