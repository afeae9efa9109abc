-- Rules that don't track by sc0 never ask for it.
use Rattle.std.proofs.Common.{◌≡◌, ◌∙◌, ℕ, Bool, true, false, List, [], ◌∷◌, refl, sym, ap, if◌then◌else◌}
use Rattle.std.specs.List.{AllByRecursion}
use Rattle.rule_model.specs.declared.actions.Action.{Action}
use Rattle.rule_model.specs.declared.criteria.Criterion.{Criterion}
use Rattle.rule_model.specs.declared.rules.Rule.{Rule}
use Rattle.rule_model.specs.declared.sections.Setup.{Setup}
use Rattle.rule_eval.specs.Limit.{tracks_sc0, wants_sc0}
use Rattle.rule_eval.specs.Readings.{is_answer}
use Rattle.rule_eval.specs.Verdict.{Course, ask, judged, effect, slots_after, rules_course}
use Rattle.rule_eval.specs.declared.slots.Slots.{Slots}
use Rattle.rule_eval.specs.declared.wants.Answer.{Answer}
use Rattle.rule_eval.specs.declared.wants.Samples.{Samples}
use Rattle.rule_eval.specs.declared.wants.Verdict.TheVariants.{Reject}
use Rattle.rule_eval.specs.declared.wants.Want.{Want}
use Rattle.rule_eval.specs.declared.wants.Want.TheVariants.{Done}
use Rattle.rule_eval.proofs.Asking.{Asks, judged_asks, effect_asks}
use Rattle.rule_eval.proofs.Walk as walk

abbrev pub IsQuiet : Course → Type 0
IsQuiet course = (answers : List Answer) → wants_sc0 (course answers) ≡ false

abbrev Quiet : Slots → Want → Type 0
Quiet slots want = wants_sc0 want ≡ false

abbrev QuietFor : ℕ → Slots → Course → Type 0
QuietFor n slots course = IsQuiet course

judged_quiet : (setup : Setup) (samples : Samples) (slots : Slots) (criterion : Criterion) → Asks (Quiet slots) (judged setup samples slots criterion)
judged_quiet setup samples slots criterion =
    judged_asks (Quiet slots) setup samples slots (λ slot tracks. refl) (λ slot act tracks. refl) (λ table key there. refl) criterion

effect_quiet : (setup : Setup) (samples : Samples) (action : Action) → tracks_sc0 action ≡ false → (slots : Slots) → Asks (Quiet slots) (effect setup samples slots action)
effect_quiet setup samples action other slots =
    effect_asks (Quiet slots) setup samples slots action (λ slot act tracks. refl) (λ slot expression name table key here empty there. sym (ap tracks_sc0 here) ∙ other)

all_quiet : (setup : Setup) (samples : Samples) (rules : List Rule) → AllByRecursion (λ rule. tracks_sc0 rule.action ≡ false) rules →
    AllByRecursion (λ rule. (slots : Slots) → Asks (Quiet slots) (effect setup samples slots rule.action)) rules
all_quiet setup samples [] h = tt
all_quiet setup samples (rule ∷ more) h = (effect_quiet setup samples rule.action h.0, all_quiet setup samples more h.1)

pub branch_quiet : (b : Bool) (x y : Want) → wants_sc0 x ≡ false → wants_sc0 y ≡ false → wants_sc0 (if b then x else y) ≡ false
branch_quiet true x y h k = h
branch_quiet false x y h k = k

ask_quiet : (n : ℕ) (slots : Slots) (want : Want) (after : Answer → Course) → Quiet slots want → ((answer : Answer) → QuietFor n (slots_after slots want answer) (after answer)) → IsQuiet (ask want after)
ask_quiet n slots want after quiet h [] = quiet
ask_quiet n slots want after quiet h (answer ∷ more) = branch_quiet (is_answer want answer) (after answer more) (Done Reject) (h answer more) refl

pub rules_quiet : (setup : Setup) (samples : Samples) (rules : List Rule) (slots : Slots) → AllByRecursion (λ rule. tracks_sc0 rule.action ≡ false) rules → IsQuiet (rules_course setup samples rules slots)
rules_quiet setup samples rules slots h =
    walk.rules QuietFor Quiet (λ n slots verdict answers. refl) ask_quiet (λ k n slots course quiet. quiet)
    setup samples (judged_quiet setup samples) rules slots (all_quiet setup samples rules h)
