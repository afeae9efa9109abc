-- Where an evaluation waits, and what it still asks.
use Rattle.std.specs.Prelude.{◌≡◌, ℕ, Bool, true, false, not, ◌&&◌, List, [], is_some, unwrap_or, Option, None, if◌then◌else◌}
use Rattle.rule_model.specs.declared.actions.Action.{Action}
use Rattle.stick_model.specs.Key.{Key}
use Rattle.rule_model.specs.declared.actions.KeyExpression.{KeyExpression}
use Rattle.rule_model.specs.declared.actions.KeyExpression.TheVariants as keys
use Rattle.rule_model.specs.declared.criteria.Criterion.{Criterion}
use Rattle.rule_model.specs.declared.criteria.Criterion.TheVariants as criteria
use Rattle.rule_model.specs.declared.criteria.Measure.{Measure}
use Rattle.rule_model.specs.declared.criteria.Measure.TheVariants as measures
use Rattle.rule_model.specs.declared.rules.Rule.{Rule}
use Rattle.rule_model.specs.declared.rules.Term.{Term}
use Rattle.rule_model.specs.declared.sections.Setup.{Setup}
use Rattle.rule_eval.specs.Readings.{read_of, value_of, matches_any}
use Rattle.rule_eval.specs.Slots.{slot_of}
use Rattle.rule_eval.specs.Tables.{key_of}
use Rattle.rule_eval.specs.Verdict.{Inquiry, known, asks, Outcome, ends, goes_on, Course, ask, done, any_criterion, all_terms, any_conjunction, unless_negated, slots_after, action_course, rules_course}
use Rattle.rule_eval.specs.declared.questions.Effect.{Effect}
use Rattle.rule_eval.specs.declared.questions.Effect.TheVariants as effects
use Rattle.rule_eval.specs.declared.questions.Question.{Question}
use Rattle.rule_eval.specs.declared.questions.Question.TheVariants as questions
use Rattle.rule_eval.specs.declared.questions.Request.{Request}
use Rattle.rule_eval.specs.declared.questions.Request.TheVariants as requests
use Rattle.rule_eval.specs.declared.questions.Found.{Found}
use Rattle.rule_eval.specs.declared.questions.Found.TheVariants.{Known, Asks}
use Rattle.rule_eval.specs.declared.scan.Place.{Place}
use Rattle.rule_eval.specs.declared.scan.Point.{Point}
use Rattle.rule_eval.specs.declared.scan.Point.TheVariants as points
use Rattle.rule_eval.specs.declared.scan.Scan.{Scan}
use Rattle.rule_eval.specs.declared.scan.Scan.TheVariants as scans
use Rattle.rule_eval.specs.declared.slots.Slots.{Slots}
use Rattle.rule_eval.specs.declared.wants.Answer.{Answer}
use Rattle.rule_eval.specs.declared.wants.Samples.{Samples}
use Rattle.rule_eval.specs.declared.wants.Want.{Want}
use Rattle.rule_eval.specs.declared.wants.Want.TheVariants.{Get, Track, Look, Count}

-- ---- questions and requests: wants whose keys are still to be made

-- the key that an expression gives a table
abbrev pub key_at : Setup → Samples → KeyExpression → ℕ → Key
key_at setup samples expression table = unwrap_or (key_of setup samples expression table) []

unfoldable pub question_want : Setup → Samples → Question → Want
question_want setup samples (questions.Get table) = Get table (key_at setup samples keys.Source table)
question_want setup samples (questions.Look slot) = Look slot
question_want setup samples (questions.Count slot act) = Count slot act

unfoldable pub request_want : Setup → Samples → Request → Want
request_want setup samples (requests.Track slot table key) = Track slot table (key_at setup samples key.now table)
request_want setup samples (requests.Count slot act) = Count slot act

-- whether a question has its key, or a slot that tracks
unfoldable pub is_asked : Setup → Samples → Slots → Question → Bool
is_asked setup samples slots (questions.Get table) = is_some (key_of setup samples keys.Source table)
is_asked setup samples slots (questions.Look slot) = is_some (slot_of slots slot)
is_asked setup samples slots (questions.Count slot act) = is_some (slot_of slots slot)

-- whether a request has its key and a slot that is free, or a slot that tracks
unfoldable pub is_requested : Setup → Samples → Slots → Request → Bool
is_requested setup samples slots (requests.Track slot table key) = not (is_some (slot_of slots slot)) && is_some (key_of setup samples key.now table)
is_requested setup samples slots (requests.Count slot act) = is_some (slot_of slots slot)

-- ---- what is found of a part of a rule

-- the value of a measure, after an answer
abbrev pub reading : Measure → Answer → Option ℕ
reading measures.SourcePort answer = None
reading measures.DestinationPort answer = None
reading (measures.Tracked slot fetch) answer = read_of fetch answer
reading (measures.Counted slot act) answer = value_of answer
reading (measures.Source table fetch) answer = read_of fetch answer

-- whether a criterion holds, after an answer
unfoldable pub truth : Criterion → Answer → Bool
truth (criteria.Always value) answer = value
truth (criteria.IsTracked slot) answer = false
truth (criteria.Source networks) answer = false
truth (criteria.Matches measure patterns) answer = matches_any patterns (reading measure answer)

-- what was found is what the definition has
abbrev pub Finds : {A : Type 0} → Setup → Samples → Slots → Found A → (Answer → A) → Inquiry A → Type 0
Finds setup samples slots (Known value) meaning inquiry = inquiry ≡ known value
Finds setup samples slots (Asks question) meaning inquiry =
    (inquiry ≡ asks (question_want setup samples question) meaning) × (is_asked setup samples slots question ≡ true)

-- the same of an action
abbrev pub Acts : Setup → Samples → Slots → Effect → Inquiry Outcome → Type 0
Acts setup samples slots (effects.Ends verdict) inquiry = inquiry ≡ known (ends verdict)
Acts setup samples slots (effects.Asks request) inquiry =
    (inquiry ≡ asks (request_want setup samples request) (λ answer. goes_on (slots_after slots (request_want setup samples request) answer)))
    × (is_requested setup samples slots request ≡ true)
Acts setup samples slots effects.Nothing inquiry = inquiry ≡ known (goes_on slots)

-- ---- places within a condition

-- what follows a conjunction
abbrev pub conjunction_end : Setup → Samples → Slots → List (List Term) → (Bool → Course) → (Bool → Course)
conjunction_end setup samples slots conjunctions after = λ holds.
    if holds then after true else any_conjunction setup samples slots conjunctions after

-- what follows a term
abbrev pub term_end : Setup → Samples → Slots → List Term → List (List Term) → (Bool → Course) → (Bool → Course)
term_end setup samples slots terms conjunctions after = λ holds.
    if holds then all_terms setup samples slots terms (conjunction_end setup samples slots conjunctions after)
    else conjunction_end setup samples slots conjunctions after false

-- what follows the criteria of a term
abbrev pub criteria_end : Setup → Samples → Slots → Bool → List Term → List (List Term) → (Bool → Course) → (Bool → Course)
criteria_end setup samples slots negated terms conjunctions after = λ holds.
    term_end setup samples slots terms conjunctions after (unless_negated negated holds)

-- what follows one criterion
abbrev pub criterion_end : Setup → Samples → Slots → Place → (Bool → Course) → (Bool → Course)
criterion_end setup samples slots place after = λ holds.
    let end = criteria_end setup samples slots place.negated place.terms.now place.conjunctions.now after in
    if holds then end true else any_criterion setup samples slots place.criteria.now end

-- from a question on
abbrev pub place_course : Setup → Samples → Slots → Question → Place → (Bool → Course) → Course
place_course setup samples slots question place after =
    ask (question_want setup samples question) (λ answer. criterion_end setup samples slots place after (truth place.criterion.now answer))

-- a scan came to the first criterion that asks, or to the truth
abbrev pub Leads : Setup → Samples → Slots → Scan → ((Bool → Course) → Course) → Type 0
Leads setup samples slots (scans.Asks question place) course =
    ((after : Bool → Course) → course after ≡ place_course setup samples slots question place after) × (is_asked setup samples slots question ≡ true)
Leads setup samples slots (scans.Is holds) course = (after : Bool → Course) → course after ≡ after holds

-- the same within a condition, where other parts follow
abbrev pub LeadsWithin : Setup → Samples → Slots → Scan → ((Bool → Course) → Course) → ((Bool → Course) → (Bool → Course)) → Type 0
LeadsWithin setup samples slots (scans.Asks question place) course end =
    ((after : Bool → Course) → course (end after) ≡ place_course setup samples slots question place after) × (is_asked setup samples slots question ≡ true)
LeadsWithin setup samples slots (scans.Is holds) course end = (after : Bool → Course) → course after ≡ after holds

-- ---- points within the rules

-- what follows a rule that applies or doesn't
abbrev pub rule_end : Setup → Samples → Slots → Action → List Rule → Bool → Course
rule_end setup samples slots action rules = λ applies.
    if applies then action_course setup samples slots action (rules_course setup samples rules) else rules_course setup samples rules slots

abbrev pub point_course : Setup → Samples → Slots → Point → Course
point_course setup samples slots (points.Condition question place rule rules) =
    place_course setup samples slots question place
    (λ holds. rule_end setup samples slots rule.now.action rules.now (unless_negated rule.now.unless holds))
point_course setup samples slots (points.Action request rules) =
    ask (request_want setup samples request) (λ answer. rules_course setup samples rules.now (slots_after slots (request_want setup samples request) answer))
point_course setup samples slots (points.Done verdict) = done verdict

-- whether what is waited for can be asked
abbrev pub is_ready : Setup → Samples → Slots → Point → Bool
is_ready setup samples slots (points.Condition question place rule rules) = is_asked setup samples slots question
is_ready setup samples slots (points.Action request rules) = is_requested setup samples slots request
is_ready setup samples slots (points.Done verdict) = true
