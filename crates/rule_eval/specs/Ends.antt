-- Every evaluation comes to its verdict.
use Rattle.std.specs.Prelude.{◌≡◌, ◌≤◌, true, List, length}
use Rattle.rule_model.specs.declared.sections.Setup.{Setup}
use Rattle.rule_eval.specs.Left.{rules_size, is_done}
use Rattle.rule_eval.specs.Verdict.{next}
use Rattle.rule_eval.specs.declared.wants.Answer.{Answer}
use Rattle.rule_eval.specs.declared.wants.Samples.{Samples}

-- after as many answers as the rules have criteria and actions, the verdict is there
abbrev pub EndsLaw : Type 0
EndsLaw = (setup : Setup) (samples : Samples) (answers : List Answer) → rules_size setup.rules ≤ length answers → is_done (next setup samples answers) ≡ true
