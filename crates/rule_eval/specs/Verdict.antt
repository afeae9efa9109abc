-- What the rules of a proxy ask next, one event at a time, after the answers so far.
use Rattle.std.specs.Prelude.{ℕ, Bool, true, false, not, List, [], ◌∷◌, is_some, Option, Some, None, if◌then◌else◌}
use Rattle.std.specs.List.{list_any}
use Rattle.rule_addresses.specs.Matching.{holds}
use Rattle.stick_model.specs.Key.{Key}
use Rattle.rule_model.specs.declared.actions.Action.{Action}
use Rattle.rule_model.specs.declared.actions.Action.TheVariants as actions
use Rattle.rule_model.specs.declared.actions.KeyExpression.{KeyExpression}
use Rattle.rule_model.specs.declared.actions.KeyExpression.TheVariants as keys
use Rattle.rule_model.specs.declared.actions.Slot.{Slot}
use Rattle.rule_model.specs.declared.criteria.Criterion.{Criterion}
use Rattle.rule_model.specs.declared.criteria.Criterion.TheVariants as criteria
use Rattle.rule_model.specs.declared.criteria.Fetch.{Fetch}
use Rattle.rule_model.specs.declared.criteria.Measure.{Measure}
use Rattle.rule_model.specs.declared.criteria.Measure.TheVariants as measures
use Rattle.rule_model.specs.declared.rules.Rule.{Rule}
use Rattle.rule_model.specs.declared.rules.Term.{Term}
use Rattle.rule_model.specs.declared.sections.Setup.{Setup}
use Rattle.stored_data.specs.declared.act.Act.{Act}
use Rattle.rule_eval.specs.Readings.{is_answer, read_of, value_of, matches_any}
use Rattle.rule_eval.specs.Slots.{slot_of, with_slot, no_slots}
use Rattle.rule_eval.specs.Tables.{table_number, stores, key_of}
use Rattle.rule_eval.specs.declared.slots.Slots.{Slots}
use Rattle.rule_eval.specs.declared.wants.Answer.{Answer}
use Rattle.rule_eval.specs.declared.wants.Answer.TheVariants as answers
use Rattle.rule_eval.specs.declared.wants.Samples.{Samples}
use Rattle.rule_eval.specs.declared.wants.Verdict.{Verdict}
use Rattle.rule_eval.specs.declared.wants.Verdict.TheVariants.{Accept, Reject}
use Rattle.rule_eval.specs.declared.wants.Want.{Want}
use Rattle.rule_eval.specs.declared.wants.Want.TheVariants.{Get, Track, Look, Count, Done}

-- ---- what a part of a rule comes to: a value that is known at once, or one that is read from the answer to a want

pub data Inquiry (A : Type 0) : Type 0 where
  known : A → Inquiry A
  asks : Want → (Answer → A) → Inquiry A

-- what follows from the value
abbrev pub then_of : {A B : Type 0} → (A → B) → Inquiry A → Inquiry B
then_of f (known a) = known (f a)
then_of f (asks want reading) = asks want (λ answer. f (reading answer))

-- ---- criteria

-- an entry that is looked at through its slot, where the slot tracks one and its table stores what is read
abbrev pub looked : Setup → Slot → Option ℕ → Fetch → Inquiry (Option ℕ)
looked setup slot None fetch = known None
looked setup slot (Some table) fetch = if stores setup table fetch then asks (Look slot) (read_of fetch) else known None

-- an act on the entry of a slot, where the slot tracks one
abbrev pub counted : Slot → Option ℕ → Act → Inquiry (Option ℕ)
counted slot None act = known None
counted slot (Some table) act = asks (Count slot act) value_of

-- the entry of a key, where there is a key; 0 without one
abbrev pub shown_of : ℕ → Option Key → Fetch → Inquiry (Option ℕ)
shown_of table None fetch = known (Some 0)
shown_of table (Some key) fetch = asks (Get table key) (read_of fetch)

-- the entry of the source in a table that stores what is read
abbrev pub source_shown : Setup → Samples → Option ℕ → Fetch → Inquiry (Option ℕ)
source_shown setup samples None fetch = known None
source_shown setup samples (Some table) fetch =
    if stores setup table fetch then shown_of table (key_of setup samples keys.Source table) fetch else known None

-- the value of a measure; none makes its criterion false
abbrev pub measured : Setup → Samples → Slots → Measure → Inquiry (Option ℕ)
measured setup samples slots measures.SourcePort = known (Some samples.src_port)
measured setup samples slots measures.DestinationPort = known (Some samples.dst_port)
measured setup samples slots (measures.Tracked slot fetch) = looked setup slot (slot_of slots slot) fetch
measured setup samples slots (measures.Counted slot act) = counted slot (slot_of slots slot) act
measured setup samples slots (measures.Source table fetch) = source_shown setup samples (table_number setup table) fetch

-- whether a criterion holds
unfoldable pub judged : Setup → Samples → Slots → Criterion → Inquiry Bool
judged setup samples slots (criteria.Always value) = known value
judged setup samples slots (criteria.IsTracked slot) = known (is_some (slot_of slots slot))
judged setup samples slots (criteria.Source networks) = known (list_any (λ network. holds network samples.src) networks)
judged setup samples slots (criteria.Matches measure patterns) = then_of (matches_any patterns) (measured setup samples slots measure)

-- ---- courses: what is next, as a function of the answers to come

abbrev pub Course : Type 0
Course = List Answer → Want

-- a want, and what follows its answer; an answer of another kind than was wanted makes the connection rejected
abbrev pub ask : Want → (Answer → Course) → Course
ask want after [] = want
ask want after (answer ∷ more) = if is_answer want answer then after answer more else Done Reject

abbrev pub done : Verdict → Course
done verdict answers = Done verdict

abbrev pub settle : {A : Type 0} → Inquiry A → (A → Course) → Course
settle (known a) after = after a
settle (asks want reading) after = ask want (λ answer. after (reading answer))

-- one criterion after another, until one holds
abbrev pub any_criterion : Setup → Samples → Slots → List Criterion → (Bool → Course) → Course
any_criterion setup samples slots [] after = after false
any_criterion setup samples slots (criterion ∷ more) after =
    settle (judged setup samples slots criterion) (λ holds. if holds then after true else any_criterion setup samples slots more after)

-- a value, or with `!` and with `unless` its contrary
abbrev pub unless_negated : Bool → Bool → Bool
unless_negated true value = not value
unless_negated false value = value

-- a term holds where one of its criteria does, or with `!` where none does
abbrev pub term_course : Setup → Samples → Slots → Term → (Bool → Course) → Course
term_course setup samples slots term after =
    any_criterion setup samples slots term.criteria (λ holds. after (unless_negated term.negated holds))

-- one term after another, until one doesn't hold
abbrev pub all_terms : Setup → Samples → Slots → List Term → (Bool → Course) → Course
all_terms setup samples slots [] after = after true
all_terms setup samples slots (term ∷ more) after =
    term_course setup samples slots term (λ holds. if holds then all_terms setup samples slots more after else after false)

-- one conjunction after another, until one holds
abbrev pub any_conjunction : Setup → Samples → Slots → List (List Term) → (Bool → Course) → Course
any_conjunction setup samples slots [] after = after false
any_conjunction setup samples slots (terms ∷ more) after =
    all_terms setup samples slots terms (λ holds. if holds then after true else any_conjunction setup samples slots more after)

-- whether a rule's action is done: always without a condition; `unless` negates the whole
abbrev pub rule_course : Setup → Samples → Slots → Bool → Option (List (List Term)) → (Bool → Course) → Course
rule_course setup samples slots unless None after = after true
rule_course setup samples slots unless (Some conjunctions) after =
    any_conjunction setup samples slots conjunctions (λ holds. after (unless_negated unless holds))

-- ---- actions

-- an action ends with a verdict, or evaluation goes on with these slots
pub data Outcome : Type 0 where
  ends : Verdict → Outcome
  goes_on : Slots → Outcome

-- the slots after the answer to a want
abbrev pub slots_after : Slots → Want → Answer → Slots
slots_after slots (Track slot table key) answers.Tracked = with_slot slots slot table
slots_after slots want answer = slots

-- a slot that tracks stays as it is, and a key that can't be converted tracks nothing
abbrev pub tracked_by : Slots → Slot → Option ℕ → ℕ → Option Key → Inquiry Outcome
tracked_by slots slot (Some held) table key = known (goes_on slots)
tracked_by slots slot None table None = known (goes_on slots)
tracked_by slots slot None table (Some key) =
    asks (Track slot table key) (λ answer. goes_on (slots_after slots (Track slot table key) answer))

-- a name that no table has tracks nothing
abbrev pub tracked_in : Setup → Samples → Slots → Slot → KeyExpression → Option ℕ → Inquiry Outcome
tracked_in setup samples slots slot key None = known (goes_on slots)
tracked_in setup samples slots slot key (Some table) = tracked_by slots slot (slot_of slots slot) table (key_of setup samples key table)

-- an act on the entry of a slot that tracks one; whatever it answers, evaluation goes on
abbrev pub acted : Slots → Slot → Option ℕ → Act → Inquiry Outcome
acted slots slot None act = known (goes_on slots)
acted slots slot (Some table) act = asks (Count slot act) (λ answer. goes_on slots)

-- what an action does
unfoldable pub effect : Setup → Samples → Slots → Action → Inquiry Outcome
effect setup samples slots actions.Accept = known (ends Accept)
effect setup samples slots actions.Reject = known (ends Reject)
effect setup samples slots (actions.Track slot key table) = tracked_in setup samples slots slot key (table_number setup table)
effect setup samples slots (actions.Count slot act) = acted slots slot (slot_of slots slot) act

-- ---- rules

abbrev pub outcome_course : (Slots → Course) → Outcome → Course
outcome_course after (ends verdict) = done verdict
outcome_course after (goes_on slots) = after slots

abbrev pub action_course : Setup → Samples → Slots → Action → (Slots → Course) → Course
action_course setup samples slots action after = settle (effect setup samples slots action) (outcome_course after)

-- one rule after another; where none ends it, the connection is accepted
abbrev pub rules_course : Setup → Samples → List Rule → Slots → Course
rules_course setup samples [] slots = done Accept
rules_course setup samples (rule ∷ more) slots =
    rule_course setup samples slots rule.unless rule.condition
    (λ applies. if applies then action_course setup samples slots rule.action (rules_course setup samples more) else rules_course setup samples more slots)

-- what is wanted next, after the answers so far
abbrev pub next : Setup → Samples → List Answer → Want
next setup samples = rules_course setup samples setup.rules no_slots
