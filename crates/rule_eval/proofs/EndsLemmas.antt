-- Every course of rules ends.
use Rattle.std.proofs.Common.{◌≡◌, ℕ, ◌+◌, ◌≤◌, Bool, true, false, List, [], ◌∷◌, length, refl, if◌then◌else◌, arith}
use Rattle.std.specs.List.{AllByRecursion}
use Rattle.rule_model.specs.declared.rules.Rule.{Rule}
use Rattle.rule_model.specs.declared.sections.Setup.{Setup}
use Rattle.rule_eval.specs.Ends.{EndsLaw}
use Rattle.rule_eval.specs.Left.{is_done}
use Rattle.rule_eval.specs.Readings.{is_answer}
use Rattle.rule_eval.specs.Slots.{no_slots}
use Rattle.rule_eval.specs.Verdict.{Inquiry, known, asks, Course, ask, judged, effect, slots_after}
use Rattle.rule_eval.specs.declared.slots.Slots.{Slots}
use Rattle.rule_eval.specs.declared.wants.Answer.{Answer}
use Rattle.rule_eval.specs.declared.wants.Samples.{Samples}
use Rattle.rule_eval.specs.declared.wants.Verdict.TheVariants.{Reject}
use Rattle.rule_eval.specs.declared.wants.Want.{Want}
use Rattle.rule_eval.specs.declared.wants.Want.TheVariants.{Done}
use Rattle.rule_eval.proofs.Asking.{Asks}
use Rattle.rule_eval.proofs.Walk as walk

-- the verdict is there after so many answers
abbrev EndsIn : ℕ → Slots → Course → Type 0
EndsIn n slots course = (answers : List Answer) → n ≤ length answers → is_done (course answers) ≡ true

abbrev Any : Slots → Want → Type 0
Any slots want = Unit {0}

any_asks : {A : Type 0} (slots : Slots) (inquiry : Inquiry A) → Asks (Any slots) inquiry
any_asks slots (known a) = tt
any_asks slots (asks want reading) = tt

all_ask : (setup : Setup) (samples : Samples) (rules : List Rule) → AllByRecursion (λ rule. (slots : Slots) → Asks (Any slots) (effect setup samples slots rule.action)) rules
all_ask setup samples [] = tt
all_ask setup samples (rule ∷ more) = (λ slots. any_asks slots (effect setup samples slots rule.action), all_ask setup samples more)

on_branch : (b : Bool) (x y : Want) → is_done x ≡ true → is_done y ≡ true → is_done (if b then x else y) ≡ true
on_branch true x y h k = h
on_branch false x y h k = k

on_ask : (n : ℕ) (slots : Slots) (want : Want) (after : Answer → Course) → Any slots want → ((answer : Answer) → EndsIn n (slots_after slots want answer) (after answer)) → EndsIn (1 + n) slots (ask want after)
on_ask n slots want after allowed h [] few = absurd (omega arith)
on_ask n slots want after allowed h (answer ∷ more) few = on_branch (is_answer want answer) (after answer more) (Done Reject) (h answer more (omega arith)) refl

pub ends_lem : EndsLaw
ends_lem setup samples =
    walk.rules EndsIn Any (λ n slots verdict answers few. refl) on_ask (λ k n slots course h answers few. h answers (omega arith))
    setup samples (λ slots criterion. any_asks slots (judged setup samples slots criterion)) setup.rules no_slots (all_ask setup samples setup.rules)
