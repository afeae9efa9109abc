-- What an evaluation stands for.
use Rattle.std.specs.Prelude.{◌≡◌, ℕ, List, ◌++◌}
use Rattle.rule_model.specs.declared.sections.Setup.{Setup}
use Rattle.rule_eval.specs.Course.{point_course}
use Rattle.rule_eval.specs.Left.{point_left}
use Rattle.rule_eval.specs.Verdict.{Course, next}
use Rattle.rule_eval.specs.declared.evaluation.Eval.{Eval}
use Rattle.rule_eval.specs.declared.slots.Slots.{Slots}
use Rattle.rule_eval.specs.declared.wants.Answer.{Answer}
use Rattle.rule_eval.specs.declared.wants.Samples.{Samples}

-- what an evaluation still asks
unfoldable pub remaining : Eval → Course
remaining eval = point_course eval.case.setup.now eval.case.samples eval.case.slots eval.point

-- how many wants are left at most: none behind the verdict
unfoldable pub left : Eval → ℕ
left eval = point_left eval.point

-- the setup that it is of
unfoldable pub setup_of : Eval → Setup
setup_of eval = eval.case.setup.now

-- what its slots track
unfoldable pub slots_in : Eval → Slots
slots_in eval = eval.case.slots

-- the evaluation is of this setup, and is where these answers lead
pub record Stands (eval : Eval) (setup : Setup) (samples : Samples) (answers : List Answer) : Type 0 where
  pub judges : setup_of eval ≡ setup
  pub course : (more : List Answer) → remaining eval more ≡ next setup samples (answers ++ more)
