-- What an evaluation wants where it is ready.
use Rattle.std.proofs.Common.{◌≡◌, ◌∙◌, ◌+◌, ◌==◌, arith, ℕ, Bool, true, false, nat_lt, ◌&&◌, not, is_some, [], length, Option, Some, None, slice_get, refl}
use Rattle.std.proofs.lemmas.Bool.{lt-ltb, false≢true}
use Rattle.std.proofs.lemmas.Option.{slice_get_within}
use Rattle.rule_model.specs.declared.actions.KeyExpression.{KeyExpression}
use Rattle.rule_model.specs.declared.actions.KeyExpression.TheVariants as keys
use Rattle.rule_model.specs.declared.sections.NamedSpec.{NamedSpec}
use Rattle.rule_model.specs.declared.sections.Setup.{Setup}
use Rattle.rule_eval.specs.Asked.{asked_by}
use Rattle.rule_eval.specs.Course.{is_asked, is_ready, is_requested, point_course, question_want, request_want}
use Rattle.std.proofs.lemmas.Bool.Decides.{nat_tests}
use Rattle.rule_eval.specs.Left.{is_done, place_left, point_left, rules_size}
use Rattle.rule_eval.specs.Eval.{left, remaining, setup_of, slots_in}
use Rattle.rule_eval.specs.Slots.{slot_of}
use Rattle.rule_eval.specs.Tables.{key_of}
use Rattle.rule_eval.specs.Tracking.{is_free, is_tracking, names_table}
use Rattle.rule_eval.specs.declared.evaluation.Eval.{Eval}
use Rattle.rule_eval.specs.declared.questions.Question.{Question}
use Rattle.rule_eval.specs.declared.questions.Question.TheVariants as questions
use Rattle.rule_eval.specs.declared.questions.Request.{Request}
use Rattle.rule_eval.specs.declared.questions.Request.TheVariants as requests
use Rattle.rule_eval.specs.declared.scan.Point.{Point}
use Rattle.rule_eval.specs.declared.scan.Point.TheVariants as points
use Rattle.rule_eval.specs.declared.slots.Slots.{Slots}
use Rattle.rule_eval.specs.declared.wants.Asked.TheVariants.{Event}
use Rattle.rule_eval.specs.declared.wants.Samples.{Samples}

-- a table that has a key is one of the setup's
pub key_table : (setup : Setup) (samples : Samples) (expression : KeyExpression) (table : ℕ) → is_some (key_of setup samples expression table) ≡ true → nat_lt table (length setup.tables) ≡ true
key_table setup samples expression table has = step (slice_get setup.tables table) refl
  where
    step : (found : Option NamedSpec) → slice_get setup.tables table ≡ found → nat_lt table (length setup.tables) ≡ true
    step None none = absurd (false≢true (rw none at has))
    step (Some named) here = lt-ltb table (length setup.tables) (slice_get_within setup.tables table named here)

both_first : (a b : Bool) → a && b ≡ true → a ≡ true
both_first true b h = refl
both_first false b h = h

both_second : (a b : Bool) → a && b ≡ true → b ≡ true
both_second true b h = h
both_second false b h = cc

-- ---- kinds

pub question_event : (setup : Setup) (samples : Samples) (question : Question) → asked_by (question_want setup samples question) ≡ Event
unfolding question_want
question_event setup samples (questions.Get table) = refl
question_event setup samples (questions.Look slot) = refl
question_event setup samples (questions.Count slot act) = refl

-- ---- what keeps to the setup and to the slots

question_names : (setup : Setup) (samples : Samples) (slots : Slots) (question : Question) → is_asked setup samples slots question ≡ true → names_table setup (question_want setup samples question) ≡ true
unfolding question_want is_asked
question_names setup samples slots (questions.Get table) ready = key_table setup samples keys.Source table ready
question_names setup samples slots (questions.Look slot) ready = refl
question_names setup samples slots (questions.Count slot act) ready = refl

request_names : (setup : Setup) (samples : Samples) (slots : Slots) (request : Request) → is_requested setup samples slots request ≡ true → names_table setup (request_want setup samples request) ≡ true
unfolding request_want is_requested
request_names setup samples slots (requests.Track slot table key) ready = key_table setup samples key.now table (both_second (not (is_some (slot_of slots slot))) (is_some (key_of setup samples key.now table)) ready)
request_names setup samples slots (requests.Count slot act) ready = refl

question_free : (setup : Setup) (samples : Samples) (slots : Slots) (question : Question) → is_free slots (question_want setup samples question) ≡ true
unfolding question_want
question_free setup samples slots (questions.Get table) = refl
question_free setup samples slots (questions.Look slot) = refl
question_free setup samples slots (questions.Count slot act) = refl

request_free : (setup : Setup) (samples : Samples) (slots : Slots) (request : Request) → is_requested setup samples slots request ≡ true → is_free slots (request_want setup samples request) ≡ true
unfolding request_want is_requested
request_free setup samples slots (requests.Track slot table key) ready = both_first (not (is_some (slot_of slots slot))) (is_some (key_of setup samples key.now table)) ready
request_free setup samples slots (requests.Count slot act) ready = refl

question_tracking : (setup : Setup) (samples : Samples) (slots : Slots) (question : Question) → is_asked setup samples slots question ≡ true → is_tracking slots (question_want setup samples question) ≡ true
unfolding question_want is_asked
question_tracking setup samples slots (questions.Get table) ready = refl
question_tracking setup samples slots (questions.Look slot) ready = ready
question_tracking setup samples slots (questions.Count slot act) ready = ready

request_tracking : (setup : Setup) (samples : Samples) (slots : Slots) (request : Request) → is_requested setup samples slots request ≡ true → is_tracking slots (request_want setup samples request) ≡ true
unfolding request_want is_requested
request_tracking setup samples slots (requests.Track slot table key) ready = refl
request_tracking setup samples slots (requests.Count slot act) ready = ready

-- ---- of an evaluation

names_at : (setup : Setup) (samples : Samples) (slots : Slots) (point : Point) → is_ready setup samples slots point ≡ true → names_table setup (point_course setup samples slots point []) ≡ true
names_at setup samples slots (points.Condition question place rule rules) ready = question_names setup samples slots question ready
names_at setup samples slots (points.Action request rules) ready = request_names setup samples slots request ready
names_at setup samples slots (points.Done verdict) ready = refl

free_at : (setup : Setup) (samples : Samples) (slots : Slots) (point : Point) → is_ready setup samples slots point ≡ true → is_free slots (point_course setup samples slots point []) ≡ true
free_at setup samples slots (points.Condition question place rule rules) ready = question_free setup samples slots question
free_at setup samples slots (points.Action request rules) ready = request_free setup samples slots request ready
free_at setup samples slots (points.Done verdict) ready = refl

tracking_at : (setup : Setup) (samples : Samples) (slots : Slots) (point : Point) → is_ready setup samples slots point ≡ true → is_tracking slots (point_course setup samples slots point []) ≡ true
tracking_at setup samples slots (points.Condition question place rule rules) ready = question_tracking setup samples slots question ready
tracking_at setup samples slots (points.Action request rules) ready = request_tracking setup samples slots request ready
tracking_at setup samples slots (points.Done verdict) ready = refl

pub eval_names : (eval : Eval) → names_table (setup_of eval) (remaining eval []) ≡ true
unfolding remaining setup_of
eval_names eval = names_at eval.case.setup.now eval.case.samples eval.case.slots eval.point eval.ready

pub eval_free : (eval : Eval) → is_free (slots_in eval) (remaining eval []) ≡ true
unfolding remaining slots_in
eval_free eval = free_at eval.case.setup.now eval.case.samples eval.case.slots eval.point eval.ready

pub eval_tracking : (eval : Eval) → is_tracking (slots_in eval) (remaining eval []) ≡ true
unfolding remaining slots_in
eval_tracking eval = tracking_at eval.case.setup.now eval.case.samples eval.case.slots eval.point eval.ready

-- ---- what is left

question_goes_on : (setup : Setup) (samples : Samples) (question : Question) → is_done (question_want setup samples question) ≡ false
unfolding question_want
question_goes_on setup samples (questions.Get table) = refl
question_goes_on setup samples (questions.Look slot) = refl
question_goes_on setup samples (questions.Count slot act) = refl

request_goes_on : (setup : Setup) (samples : Samples) (request : Request) → is_done (request_want setup samples request) ≡ false
unfolding request_want
request_goes_on setup samples (requests.Track slot table key) = refl
request_goes_on setup samples (requests.Count slot act) = refl

some_left : (a b : ℕ) → false ≡ (1 + a + b == 0)
some_left a b = grind (arith, nat_tests)

one_left : (a : ℕ) → false ≡ (1 + a == 0)
one_left a = grind (arith, nat_tests)

-- nothing is left exactly behind the verdict
pub eval_left : (eval : Eval) → is_done (remaining eval []) ≡ (left eval == 0)
unfolding remaining left
eval_left eval = at eval.case.setup.now eval.case.samples eval.case.slots eval.point
  where
    at : (setup : Setup) (samples : Samples) (slots : Slots) (point : Point) → is_done (point_course setup samples slots point []) ≡ (point_left point == 0)
    at setup samples slots (points.Condition question place rule rules) = question_goes_on setup samples question ∙ some_left (place_left place) (1 + rules_size rules.now)
    at setup samples slots (points.Action request rules) = request_goes_on setup samples request ∙ one_left (rules_size rules.now)
    at setup samples slots (points.Done verdict) = refl
