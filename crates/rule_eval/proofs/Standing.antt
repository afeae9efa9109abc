-- Where an evaluation stands after one more answer.
use Rattle.std.proofs.Common.{◌≡◌, ◌∙◌, ap, sym, refl, true, List, [], ◌∷◌, ◌++◌, append_assoc}
use Rattle.rule_model.specs.declared.rules.Rule.{Rule}
use Rattle.rule_model.specs.declared.sections.Setup.{Setup}
use Rattle.rule_eval.specs.Readings.{is_answer}
use Rattle.rule_eval.specs.Verdict.{next, slots_after, unless_negated}
use Rattle.rule_eval.specs.Course.{question_want, place_course, criterion_end, rule_end, truth}
use Rattle.rule_eval.specs.Eval.{remaining, setup_of, Stands}
use Rattle.rule_eval.specs.declared.evaluation.Eval.{Eval}
use Rattle.rule_eval.specs.declared.questions.Question.{Question}
use Rattle.rule_eval.specs.declared.questions.Question.TheVariants as questions
use Rattle.rule_eval.specs.declared.scan.Place.{Place}
use Rattle.rule_eval.specs.declared.slots.Slots.{Slots}
use Rattle.rule_eval.specs.declared.wants.Answer.{Answer}
use Rattle.rule_eval.specs.declared.wants.Samples.{Samples}

-- an answer of the kind that was wanted
pub condition-answered : (setup : Setup) (samples : Samples) (slots : Slots) (question : Question) (place : Place) (rule : Rule) (rules : List Rule) (answer : Answer) (more : List Answer) →
    is_answer (question_want setup samples question) answer ≡ true →
    place_course setup samples slots question place (λ holds. rule_end setup samples slots rule.action rules (unless_negated rule.unless holds)) (answer ∷ more)
    ≡ criterion_end setup samples slots place (λ holds. rule_end setup samples slots rule.action rules (unless_negated rule.unless holds)) (truth place.criterion.now answer) more
condition-answered setup samples slots question place rule rules answer more e = rw e

-- the answer to a criterion changes no slot
pub question_keeps : (setup : Setup) (samples : Samples) (slots : Slots) (question : Question) (answer : Answer) →
    slots_after slots (question_want setup samples question) answer ≡ slots
unfolding question_want
question_keeps setup samples slots (questions.Get table) answer = refl
question_keeps setup samples slots (questions.Look slot) answer = refl
question_keeps setup samples slots (questions.Count slot act) answer = refl

pub stands-more : (old new : Eval) (answer : Answer) → setup_of new ≡ setup_of old → ((more : List Answer) → remaining new more ≡ remaining old (answer ∷ more)) →
    (setup : Setup) (samples : Samples) (answers : List Answer) → Stands old setup samples answers → Stands new setup samples (answers ++ answer ∷ [])
stands-more old new answer same step setup samples answers stands = record {
  judges = same ∙ stands.judges;
  course = λ more. step more ∙ stands.course (answer ∷ more) ∙ ap (next setup samples) (sym (append_assoc answers (answer ∷ []) more));
}
