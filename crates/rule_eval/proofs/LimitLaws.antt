-- What rules that begin with a limit ask.
use Rattle.std.proofs.Common.{◌≡◌, ◌∙◌, ◌≤◌, ℕ, Bool, true, false, nat_lt, List, [], ◌∷◌, Option, Some, None, ap, refl}
use Rattle.std.proofs.lemmas.Bool.{ltb-false}
use Rattle.stored_data.specs.declared.datum.Datum.TheVariants.{ConnCur}
use Rattle.stick_model.specs.Key.{Key}
use Rattle.stick_model.specs.declared.rows.Row.{Row}
use Rattle.rule_model.specs.declared.actions.KeyExpression.TheVariants as keys
use Rattle.rule_model.specs.declared.actions.Slot.TheVariants.{Sc0}
use Rattle.rule_model.specs.declared.sections.Setup.{Setup}
use Rattle.rule_eval.specs.Limit.{tracking_rule, refusing_rule, LimitsFirst, WithinLaw, FirstLaw, SecondLaw, OnceLaw, NeverLaw, wants_sc0}
use Rattle.rule_eval.specs.Readings.{is_answer, value_in}
use Rattle.rule_eval.specs.Slots.{no_slots}
use Rattle.rule_eval.specs.Tables.{key_of}
use Rattle.rule_eval.specs.Verdict.{next, rules_course, judged, effect, slots_after}
use Rattle.rule_eval.specs.declared.slots.Slots.{Slots}
use Rattle.rule_eval.specs.declared.wants.Answer.{Answer}
use Rattle.rule_eval.specs.declared.wants.Answer.TheVariants as answers
use Rattle.rule_eval.specs.declared.wants.Samples.{Samples}
use Rattle.rule_eval.specs.declared.wants.Verdict.TheVariants.{Accept, Reject}
use Rattle.rule_eval.specs.declared.wants.Want.{Want}
use Rattle.rule_eval.specs.declared.wants.Want.TheVariants.{Track, Look, Done}
use Rattle.rule_eval.proofs.Quiet.{IsQuiet, rules_quiet, branch_quiet}

begun : (s : Setup) (name : List ℕ) (table limit : ℕ) (m : Samples) (h : LimitsFirst s name table limit) (given : List Answer) →
    next s m given ≡ rules_course s m (tracking_rule name ∷ refusing_rule limit ∷ h.later) no_slots given
begun s name table limit m h given = ap (λ rules. rules_course s m rules no_slots given) h.begin

pub first_lem : FirstLaw
unfolding effect
first_lem s name table limit m key h k = begun s name table limit m h [] ∙ simp (h.named, k)

pub second_lem : SecondLaw
unfolding effect judged
second_lem s name table limit m key h k = begun s name table limit m h (answers.Tracked ∷ []) ∙ simp (h.named, k, h.stored)

-- more than the limit is rejected
above : (s : Setup) (name : List ℕ) (table limit : ℕ) (m : Samples) (key : Key) (row : Row) (more : List Answer) (h : LimitsFirst s name table limit) →
    key_of s m keys.Source table ≡ Some key → nat_lt limit (value_in row.cells ConnCur) ≡ true → next s m (answers.Tracked ∷ answers.Row row ∷ more) ≡ Done Reject
unfolding effect judged
above s name table limit m key row more h k e = begun s name table limit m h (answers.Tracked ∷ answers.Row row ∷ more) ∙ simp (h.named, k, h.stored, e)

-- an answer of another kind than was wanted rejects
wrong_first : (s : Setup) (name : List ℕ) (table limit : ℕ) (m : Samples) (key : Key) (answer : Answer) (more : List Answer) (h : LimitsFirst s name table limit) →
    key_of s m keys.Source table ≡ Some key → is_answer (Track Sc0 table key) answer ≡ false → next s m (answer ∷ more) ≡ Done Reject
unfolding effect
wrong_first s name table limit m key answer more h k e = begun s name table limit m h (answer ∷ more) ∙ simp (h.named, k, e)

wrong_second : (s : Setup) (name : List ℕ) (table limit : ℕ) (m : Samples) (key : Key) (answer : Answer) (more : List Answer) (h : LimitsFirst s name table limit) →
    key_of s m keys.Source table ≡ Some key → is_answer (Look Sc0) answer ≡ false → next s m (answers.Tracked ∷ answer ∷ more) ≡ Done Reject
unfolding effect judged
wrong_second s name table limit m key answer more h k e = begun s name table limit m h (answers.Tracked ∷ answer ∷ more) ∙ simp (h.named, k, h.stored, e)

-- a verdict is one
rejected : {A : Type 0} {want : Want} → want ≡ Done Reject → want ≡ Done Accept → A
rejected e f = cc

at_most : (s : Setup) (name : List ℕ) (table limit : ℕ) (m : Samples) (key : Key) (row : Row) (more : List Answer) → LimitsFirst s name table limit →
    key_of s m keys.Source table ≡ Some key → next s m (answers.Tracked ∷ answers.Row row ∷ more) ≡ Done Accept → value_in row.cells ConnCur ≤ limit
at_most s name table limit m key row more h k a = step (nat_lt limit (value_in row.cells ConnCur)) refl where
  step : (b : Bool) → nat_lt limit (value_in row.cells ConnCur) ≡ b → value_in row.cells ConnCur ≤ limit
  step true e = rejected (above s name table limit m key row more h k e) a
  step false e = ltb-false limit (value_in row.cells ConnCur) e

pub within_lem : WithinLaw
within_lem s name table limit m key [] h k a = cc (first_lem s name table limit m key h k)
within_lem s name table limit m key (answers.Untracked ∷ more) h k a = tt
within_lem s name table limit m key (answers.Row row ∷ more) h k a = rejected (wrong_first s name table limit m key (answers.Row row) more h k refl) a
within_lem s name table limit m key (answers.Absent ∷ more) h k a = rejected (wrong_first s name table limit m key answers.Absent more h k refl) a
within_lem s name table limit m key (answers.Value value ∷ more) h k a = rejected (wrong_first s name table limit m key (answers.Value value) more h k refl) a
within_lem s name table limit m key (answers.Released ∷ more) h k a = rejected (wrong_first s name table limit m key answers.Released more h k refl) a
within_lem s name table limit m key (answers.Tracked ∷ []) h k a = cc (second_lem s name table limit m key h k)
within_lem s name table limit m key (answers.Tracked ∷ answers.Row row ∷ more) h k a = at_most s name table limit m key row more h k a
within_lem s name table limit m key (answers.Tracked ∷ answers.Absent ∷ more) h k a = rejected (wrong_second s name table limit m key answers.Absent more h k refl) a
within_lem s name table limit m key (answers.Tracked ∷ answers.Tracked ∷ more) h k a = rejected (wrong_second s name table limit m key answers.Tracked more h k refl) a
within_lem s name table limit m key (answers.Tracked ∷ answers.Untracked ∷ more) h k a = rejected (wrong_second s name table limit m key answers.Untracked more h k refl) a
within_lem s name table limit m key (answers.Tracked ∷ answers.Value value ∷ more) h k a = rejected (wrong_second s name table limit m key (answers.Value value) more h k refl) a
within_lem s name table limit m key (answers.Tracked ∷ answers.Released ∷ more) h k a = rejected (wrong_second s name table limit m key answers.Released more h k refl) a

-- ---- references for sc0

-- behind the first rule nothing asks for one
quiet_then : (s : Setup) (name : List ℕ) (table limit : ℕ) (m : Samples) (h : LimitsFirst s name table limit) (slots : Slots) →
    IsQuiet (rules_course s m (refusing_rule limit ∷ h.later) slots)
quiet_then s name table limit m h slots = rules_quiet s m (refusing_rule limit ∷ h.later) slots (refl, h.others)

pub never_lem : NeverLaw
unfolding effect
never_lem s name table limit m given h none =
    ap wants_sc0 (begun s name table limit m h given) ∙ simp (h.named, none) (quiet_then s name table limit m h no_slots given)

once : (s : Setup) (name : List ℕ) (table limit : ℕ) (m : Samples) (key : Key) (first : Answer) (more : List Answer) → LimitsFirst s name table limit →
    key_of s m keys.Source table ≡ Some key → wants_sc0 (next s m (first ∷ more)) ≡ false
unfolding effect
once s name table limit m key first more h k =
    let slots = slots_after no_slots (Track Sc0 table key) first in
    ap wants_sc0 (begun s name table limit m h (first ∷ more))
    ∙ simp (h.named, k) (branch_quiet (is_answer (Track Sc0 table key) first) (rules_course s m (refusing_rule limit ∷ h.later) slots more) (Done Reject) (quiet_then s name table limit m h slots more) refl)

pub once_lem : OnceLaw
once_lem s name table limit m first more h = step (key_of s m keys.Source table) refl where
  step : (key : Option Key) → key_of s m keys.Source table ≡ key → wants_sc0 (next s m (first ∷ more)) ≡ false
  step None none = never_lem s name table limit m (first ∷ more) h none
  step (Some key) k = once s name table limit m key first more h k
