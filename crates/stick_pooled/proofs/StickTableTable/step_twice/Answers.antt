use Rattle.stick_pooled.proofs.DispatchLemmas.{step-answered}
use Rattle.stick_pooled.proofs.StickTableTable.step_twice.Goals as goal

pub returns-in-Ok-clause-ok : goal.returns-in-Ok-clause-ok
returns-in-Ok-clause-ok c = step-answered c.args.self.now.now c.args.event.now c.in-Ok.replies.0 c.answer_twice.new.self.now c.in_default.ensures.0 c.in-Ok.ensures.ok c.in-Ok.ensures.free
