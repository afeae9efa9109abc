-- Every want keeps to the tables of the setup and to what the slots track.
use Rattle.std.proofs.Common.{◌≡◌, ℕ, ◌+◌, Bool, true, false, not, List, [], ◌∷◌, refl, ap, if◌then◌else◌}
use Rattle.std.specs.List.{AllByRecursion}
use Rattle.rule_model.specs.declared.criteria.Criterion.{Criterion}
use Rattle.rule_model.specs.declared.rules.Rule.{Rule}
use Rattle.rule_model.specs.declared.sections.Setup.{Setup}
use Rattle.rule_eval.specs.Readings.{is_answer}
use Rattle.rule_eval.specs.Slots.{no_slots}
use Rattle.rule_eval.specs.Tracking.{is_free, is_tracking, names_table, slots_from, FreeLaw, TrackingLaw, TablesLaw}
use Rattle.rule_eval.specs.Verdict.{Course, ask, done, judged, effect, slots_after, rules_course}
use Rattle.rule_eval.specs.declared.slots.Slots.{Slots}
use Rattle.rule_eval.specs.declared.wants.Answer.{Answer}
use Rattle.rule_eval.specs.declared.wants.Samples.{Samples}
use Rattle.rule_eval.specs.declared.wants.Verdict.{Verdict}
use Rattle.rule_eval.specs.declared.wants.Verdict.TheVariants.{Reject}
use Rattle.rule_eval.specs.declared.wants.Want.{Want}
use Rattle.rule_eval.specs.declared.wants.Want.TheVariants.{Done}
use Rattle.rule_eval.proofs.Asking.{Asks, judged_asks, effect_asks}
use Rattle.rule_eval.proofs.Walk as walk

record Keeps (setup : Setup) (slots : Slots) (want : Want) : Type 0 where
  pub table : names_table setup want ≡ true
  pub free : is_free slots want ≡ true
  pub tracking : is_tracking slots want ≡ true

-- whatever the answers are, the want behind them keeps to what the slots track then
abbrev KeepsAlong : Setup → ℕ → Slots → Course → Type 0
KeepsAlong setup n slots course = (answers : List Answer) → Keeps setup (slots_from course slots answers) (course answers)

done_keeps : (setup : Setup) (n : ℕ) (slots : Slots) (verdict : Verdict) → KeepsAlong setup n slots (done verdict)
done_keeps setup n slots verdict answers = record { table = refl; free = refl; tracking = refl }

branch_keeps : (setup : Setup) (b : Bool) (slots : Slots) (course : Course) (answers : List Answer) → Keeps setup (slots_from course slots answers) (course answers) →
    Keeps setup (slots_from (λ later. if b then course later else Done Reject) slots answers) (if b then course answers else Done Reject)
branch_keeps setup true slots course answers h = h
branch_keeps setup false slots course answers h = record { table = refl; free = refl; tracking = refl }

ask_keeps : (setup : Setup) (n : ℕ) (slots : Slots) (want : Want) (after : Answer → Course) → Keeps setup slots want → ((answer : Answer) → KeepsAlong setup n (slots_after slots want answer) (after answer)) → KeepsAlong setup (1 + n) slots (ask want after)
ask_keeps setup n slots want after keeps h [] = keeps
ask_keeps setup n slots want after keeps h (answer ∷ more) = branch_keeps setup (is_answer want answer) (slots_after slots want answer) (after answer) more (h answer more)

judged_keeps : (setup : Setup) (samples : Samples) (slots : Slots) (criterion : Criterion) → Asks (Keeps setup slots) (judged setup samples slots criterion)
judged_keeps setup samples slots criterion =
    judged_asks (Keeps setup slots) setup samples slots
    (λ slot tracks. record { table = refl; free = refl; tracking = tracks })
    (λ slot act tracks. record { table = refl; free = refl; tracking = tracks })
    (λ table key there. record { table = there; free = refl; tracking = refl })
    criterion

all_keep : (setup : Setup) (samples : Samples) (rules : List Rule) → AllByRecursion (λ rule. (slots : Slots) → Asks (Keeps setup slots) (effect setup samples slots rule.action)) rules
all_keep setup samples [] = tt
all_keep setup samples (rule ∷ more) = (
  λ slots.
      effect_asks (Keeps setup slots) setup samples slots rule.action
      (λ slot act tracks. record { table = refl; free = refl; tracking = tracks })
      (λ slot expression name table key here empty there. record { table = there; free = ap not empty; tracking = refl }),
  all_keep setup samples more,
)

rules_keep : (setup : Setup) (samples : Samples) → KeepsAlong setup 0 no_slots (rules_course setup samples setup.rules no_slots)
rules_keep setup samples =
    walk.rules (KeepsAlong setup) (Keeps setup) (done_keeps setup) (ask_keeps setup) (λ k n slots course h. h)
    setup samples (judged_keeps setup samples) setup.rules no_slots (all_keep setup samples setup.rules)

pub free_lem : FreeLaw
free_lem setup samples answers = (rules_keep setup samples answers).free

pub tracking_lem : TrackingLaw
tracking_lem setup samples answers = (rules_keep setup samples answers).tracking

pub tables_lem : TablesLaw
tables_lem setup samples answers = (rules_keep setup samples answers).table
