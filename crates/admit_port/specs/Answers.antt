-- What the rules hear of what a port answers.
use Rattle.std.specs.Prelude.{Option, Some, None}
use Rattle.stick_model.specs.declared.rows.Row.{Row}
use Rattle.rule_eval.specs.declared.wants.Answer.{Answer}
use Rattle.rule_eval.specs.declared.wants.Answer.TheVariants as answers

-- of a row, or that there is none
abbrev pub row_answer : Option Row → Answer
row_answer None = answers.Absent
row_answer (Some row) = answers.Row row

-- of the reference that came, or that none did
abbrev pub tracking_answer : {R : Type 0} → Option R → Answer
tracking_answer None = answers.Untracked
tracking_answer (Some reference) = answers.Tracked
