-- What holds of every course of rules, criterion by criterion: a fact on a course, on the slots that it begins with, and
-- on how much is left to ask.
use Rattle.std.proofs.Common.{◌≡◌, ℕ, ◌+◌, Bool, true, false, List, [], ◌∷◌, length, Option, Some, None, if◌then◌else◌, subst, add_assoc, sym, arith}
use Rattle.std.specs.List.{AllByRecursion}
use Rattle.rule_model.specs.declared.criteria.Criterion.{Criterion}
use Rattle.rule_model.specs.declared.rules.Rule.{Rule}
use Rattle.rule_model.specs.declared.rules.Term.{Term}
use Rattle.rule_model.specs.declared.sections.Setup.{Setup}
use Rattle.rule_eval.specs.Left.{criteria_in, criteria_of, condition_size, rules_size}
use Rattle.rule_eval.specs.Verdict.{Inquiry, known, asks, Outcome, ends, goes_on, Course, ask, done, settle, judged, effect, any_criterion, all_terms, any_conjunction, rule_course, unless_negated, slots_after, outcome_course, rules_course}
use Rattle.rule_eval.specs.declared.slots.Slots.{Slots}
use Rattle.rule_eval.specs.declared.wants.Answer.{Answer}
use Rattle.rule_eval.specs.declared.wants.Samples.{Samples}
use Rattle.rule_eval.specs.declared.wants.Verdict.{Verdict}
use Rattle.rule_eval.specs.declared.wants.Verdict.TheVariants.{Accept}
use Rattle.rule_eval.specs.declared.wants.Want.{Want}
use Rattle.rule_eval.proofs.Asking.{Asks, GoesOn, Stays, judged_stays, effect_goes_on}

branch : (P : Course → Type 0) (b : Bool) (x y : Course) → P x → P y → P (if b then x else y)
branch P true x y h k = h
branch P false x y h k = k

module _ (P : ℕ → Slots → Course → Type 0) (Allowed : Slots → Want → Type 0)
    (on_done : (n : ℕ) (slots : Slots) (verdict : Verdict) → P n slots (done verdict))
    (on_ask : (n : ℕ) (slots : Slots) (want : Want) (after : Answer → Course) → Allowed slots want → ((answer : Answer) → P n (slots_after slots want answer) (after answer)) → P (1 + n) slots (ask want after))
    (on_more : (k n : ℕ) (slots : Slots) (course : Course) → P n slots course → P (k + n) slots course)
    (setup : Setup) (samples : Samples) (judged_asks : (slots : Slots) (criterion : Criterion) → Asks (Allowed slots) (judged setup samples slots criterion)) where
  -- a criterion leaves the slots as they are
  settled : (n : ℕ) (slots : Slots) (inquiry : Inquiry Bool) (after : Bool → Course) → Asks (Allowed slots) inquiry → Asks (Stays slots) inquiry → ((b : Bool) → P n slots (after b)) → P (1 + n) slots (settle inquiry after)
  settled n slots (known b) after allowed stays h = on_more 1 n slots (after b) (h b)
  settled n slots (asks want reading) after allowed stays h =
      on_ask n slots want (λ answer. after (reading answer)) allowed
      (λ answer. subst (λ s. P n s (after (reading answer))) (sym (stays answer)) (h (reading answer)))

  criteria : (n : ℕ) (slots : Slots) (all : List Criterion) (after : Bool → Course) → ((b : Bool) → P n slots (after b)) → P (length all + n) slots (any_criterion setup samples slots all after)
  criteria n slots [] after h = on_more 0 n slots (after false) (h false)
  criteria n slots (criterion ∷ more) after h =
      let size : (1 + (length more + n)) ≡ (length (criterion ∷ more) + n) = omega arith in
      subst (λ k. P k slots (any_criterion setup samples slots (criterion ∷ more) after)) size
      (settled (length more + n) slots (judged setup samples slots criterion) _ (judged_asks slots criterion) (judged_stays setup samples slots criterion)
      (λ b. branch (P (length more + n) slots) b (after true) (any_criterion setup samples slots more after)
      (on_more (length more) n slots (after true) (h true)) (criteria n slots more after h)))

  terms : (n : ℕ) (slots : Slots) (all : List Term) (after : Bool → Course) → ((b : Bool) → P n slots (after b)) → P (criteria_in all + n) slots (all_terms setup samples slots all after)
  terms n slots [] after h = on_more 0 n slots (after true) (h true)
  terms n slots (term ∷ more) after h =
      subst (λ k. P k slots (all_terms setup samples slots (term ∷ more) after)) (sym (add_assoc (length term.criteria) (criteria_in more) n))
      (criteria (criteria_in more + n) slots term.criteria _
      (λ b. branch (P (criteria_in more + n) slots) (unless_negated term.negated b) (all_terms setup samples slots more after) (after false)
      (terms n slots more after h) (on_more (criteria_in more) n slots (after false) (h false))))

  conjunctions : (n : ℕ) (slots : Slots) (all : List (List Term)) (after : Bool → Course) → ((b : Bool) → P n slots (after b)) → P (criteria_of all + n) slots (any_conjunction setup samples slots all after)
  conjunctions n slots [] after h = on_more 0 n slots (after false) (h false)
  conjunctions n slots (all ∷ more) after h =
      subst (λ k. P k slots (any_conjunction setup samples slots (all ∷ more) after)) (sym (add_assoc (criteria_in all) (criteria_of more) n))
      (terms (criteria_of more + n) slots all _
      (λ b. branch (P (criteria_of more + n) slots) b (after true) (any_conjunction setup samples slots more after)
      (on_more (criteria_of more) n slots (after true) (h true)) (conjunctions n slots more after h)))

  condition : (n : ℕ) (slots : Slots) (unless : Bool) (given : Option (List (List Term))) (after : Bool → Course) → ((b : Bool) → P n slots (after b)) →
      P (condition_size given + n) slots (rule_course setup samples slots unless given after)
  condition n slots unless None after h = on_more 0 n slots (after true) (h true)
  condition n slots unless (Some all) after h = conjunctions n slots all _ (λ b. h (unless_negated unless b))

  -- an action goes on with the slots after its answer
  action : (n : ℕ) (slots : Slots) (inquiry : Inquiry Outcome) (after : Slots → Course) → Asks (Allowed slots) inquiry → GoesOn slots inquiry → ((slots : Slots) → P n slots (after slots)) → P (1 + n) slots (settle inquiry (outcome_course after))
  action n slots (known (ends verdict)) after allowed same h = on_more 1 n slots (done verdict) (on_done n slots verdict)
  action n slots (known (goes_on later)) after allowed same h = on_more 1 n slots (after later) (subst (λ s. P n slots (after s)) (sym same) (h slots))
  action n slots (asks want reading) after allowed same h =
      on_ask n slots want (λ answer. outcome_course after (reading answer)) allowed
      (λ answer. subst (λ o. P n (slots_after slots want answer) (outcome_course after o)) (sym (same answer)) (h (slots_after slots want answer)))

  pub rules : (all : List Rule) (slots : Slots) → AllByRecursion (λ rule. (slots : Slots) → Asks (Allowed slots) (effect setup samples slots rule.action)) all →
      P (rules_size all) slots (rules_course setup samples all slots)
  rules [] slots h = on_done 0 slots Accept
  rules (rule ∷ more) slots h =
      condition (1 + rules_size more) slots rule.unless rule.condition _
      (λ b. branch (P (1 + rules_size more) slots) b _ (rules_course setup samples more slots)
      (action (rules_size more) slots (effect setup samples slots rule.action) (rules_course setup samples more) (h.0 slots) (effect_goes_on setup samples slots rule.action) (λ slots. rules more slots h.1))
      (on_more 1 (rules_size more) slots (rules_course setup samples more slots) (rules more slots h.1)))
