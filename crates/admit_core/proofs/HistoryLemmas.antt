-- What the history of a connection keeps.
use Rattle.std.proofs.Common.{◌≡◌, ◌∙◌, ℕ, Bool, true, false, not, ◌&&◌, if◌then◌else◌, List, [], ◌∷◌, ◌++◌, slice_get, Option, Some, None, refl, sym, ap, subst}
use Rattle.std.proofs.lemmas.Bool.{false≢true}
use Rattle.stored_data.specs.declared.act.Act.{Act}
use Rattle.rule_model.specs.declared.actions.Slot.{Slot}
use Rattle.rule_model.specs.declared.sections.Setup.{Setup}
use Rattle.rule_eval.specs.Left.{is_done}
use Rattle.rule_eval.specs.Verdict.{next}
use Rattle.rule_eval.specs.declared.wants.Answer.{Answer}
use Rattle.rule_eval.specs.declared.wants.Samples.{Samples}
use Rattle.rule_eval.specs.declared.wants.Verdict.TheVariants.{Accept, Reject}
use Rattle.rule_eval.specs.declared.wants.Want.{Want}
use Rattle.rule_eval.specs.declared.wants.Want.TheVariants as wants
use Rattle.admit_core.specs.Connection.{Connection, Progress, arrived, asks, bytes_of, closing, counting, gave, gave_at, gave_of, heard, is_asking, is_judged, is_release, judging, leaving, need, need_given, need_in, need_of, phase_after, phase_by, refused, refused_before, refused_given, refused_of, sessions, skipped, took, took_given, took_in, took_of, turned}
use Rattle.admit_core.specs.Held.{held_at, holding}
use Rattle.admit_core.specs.History.{Happening, answered, was_refused, turns, closes, gives, May, after, Lives, AdmittedLaw, RejectedLaw, EndedLaw, is_count}
use Rattle.admit_core.specs.declared.need.Need.{Need}
use Rattle.admit_core.specs.declared.need.Need.TheVariants as needs
use Rattle.admit_core.specs.declared.need.Phase.{Phase}
use Rattle.admit_core.specs.declared.need.Phase.TheVariants.{New, Judging, Admitted, Rejected, Ended}
use Rattle.admit_core.proofs.SkippedLemmas.{skipped_leaves}

-- ---- once it is rejected

leaves : (slots : List Slot) → is_count (leaving slots) ≡ false
leaves [] = refl
leaves (slot ∷ more) = refl

none_counted : {R : Type 0} (want : Want) (progress : Progress R) (given : Option (Slot × ℕ)) → progress.phase ≡ Rejected → is_count (need_given given want progress) ≡ false
none_counted want progress (Some out) at = refl
none_counted want progress None at = ap (λ p. is_count (need_in p want progress)) at ∙ leaves (holding progress.held)

pub rejected_law : {R : Type 0} → RejectedLaw R
unfolding need_of
rejected_law connection at = none_counted (asks connection) connection.progress connection.progress.given at

-- ---- at the end

all_left : (slots : List Slot) → leaving slots ≡ needs.Turn → slots ≡ []
all_left [] turn = refl
all_left (slot ∷ more) turn = cc

counted_left : (act : Option (Slot × Act)) (slots : List Slot) → counting act (leaving slots) ≡ needs.Turn → slots ≡ []
counted_left None slots turn = all_left slots turn
counted_left (Some entry) slots turn = cc

closed_left : {R : Type 0} (progress : Progress R) (bytes : Option (ℕ × ℕ)) → closing bytes progress ≡ needs.Turn → holding progress.held ≡ []
closed_left progress None turn = cc
closed_left progress (Some bytes) turn = counted_left (slice_get (bytes_of bytes.0 bytes.1 (holding progress.held)) progress.counted) (holding progress.held) turn

left_in : {R : Type 0} (want : Want) (progress : Progress R) (phase : Phase) → is_judged phase ≡ false → need_in phase want progress ≡ needs.Turn → holding progress.held ≡ []
left_in want progress New judged turn = absurd (false≢true (sym judged))
left_in want progress Judging judged turn = absurd (false≢true (sym judged))
left_in want progress Admitted judged turn = closed_left progress progress.bytes turn
left_in want progress Rejected judged turn = all_left (holding progress.held) turn
left_in want progress Ended judged turn = cc

left_given : {R : Type 0} (want : Want) (progress : Progress R) (given : Option (Slot × ℕ)) → is_judged progress.phase ≡ false → need_given given want progress ≡ needs.Turn → (holding progress.held ≡ []) × (given ≡ None)
left_given want progress None judged turn = (left_in want progress progress.phase judged turn, refl)
left_given want progress (Some out) judged turn = cc

pub ended_law : {R : Type 0} → EndedLaw R
unfolding need_of
ended_law connection judged turn = left_given (asks connection) connection.progress connection.progress.given judged turn

-- ---- the verdict

-- whether it was admitted by the verdict, and nothing is handed out while it is judged
record IsSound {R : Type 0} (setup : Setup) (samples : Samples) (connection : Connection R) : Type 0 where
  pub setup_is : connection.setup ≡ setup
  pub samples_are : connection.samples ≡ samples
  pub verdict : connection.progress.phase ≡ Admitted → asks connection ≡ wants.Done Accept
  pub not_given : is_judged connection.progress.phase ≡ true → connection.progress.given ≡ None

not_judged : (phase : Phase) → phase ≡ Admitted → is_judged phase ≡ true → ⊥
not_judged phase at judged = false≢true (sym (ap is_judged at) ∙ judged)

heard_judged : {R : Type 0} (want : Want) (progress : Progress R) (reference : Option R) → is_judged progress.phase ≡ true → is_judged (heard want progress reference).phase ≡ true
heard_judged (wants.Done verdict) progress reference judged = judged
heard_judged (wants.Get table key) progress reference judged = refl
heard_judged (wants.Track slot table key) progress reference judged = refl
heard_judged (wants.Look slot) progress reference judged = refl
heard_judged (wants.Count slot act) progress reference judged = refl

heard_given : {R : Type 0} (want : Want) (progress : Progress R) (reference : Option R) → (heard want progress reference).given ≡ progress.given
heard_given (wants.Done verdict) progress reference = refl
heard_given (wants.Get table key) progress reference = refl
heard_given (wants.Track slot table key) progress reference = refl
heard_given (wants.Look slot) progress reference = refl
heard_given (wants.Count slot act) progress reference = refl

-- an answer while it is judged
took_judged : {R : Type 0} (want : Want) (progress : Progress R) (reference : Option R) (phase : Phase) → progress.phase ≡ phase → is_judged phase ≡ true → progress.given ≡ None
    → (is_judged (took_of want progress reference).phase ≡ true) × ((took_of want progress reference).given ≡ None)
unfolding took_of
took_judged want progress reference New at judged none =
    let same : took_given progress.given want progress reference ≡ heard want progress reference = ap (λ g. took_given g want progress reference) none ∙ ap (λ p. took_in p want progress reference) at in
    (ap (λ (p : Progress _). is_judged p.phase) same ∙ heard_judged want progress reference (ap is_judged at), ap (λ (p : Progress _). p.given) same ∙ heard_given want progress reference ∙ none)
took_judged want progress reference Judging at judged none =
    let same : took_given progress.given want progress reference ≡ heard want progress reference = ap (λ g. took_given g want progress reference) none ∙ ap (λ p. took_in p want progress reference) at in
    (ap (λ (p : Progress _). is_judged p.phase) same ∙ heard_judged want progress reference (ap is_judged at), ap (λ (p : Progress _). p.given) same ∙ heard_given want progress reference ∙ none)
took_judged want progress reference Admitted at judged none = cc
took_judged want progress reference Rejected at judged none = cc
took_judged want progress reference Ended at judged none = cc

-- an answer behind it
took_in-phase : {R : Type 0} (want : Want) (progress : Progress R) (reference : Option R) (phase : Phase) → is_judged phase ≡ false → (took_in phase want progress reference).phase ≡ progress.phase
took_in-phase want progress reference New judged = absurd (false≢true (sym judged))
took_in-phase want progress reference Judging judged = absurd (false≢true (sym judged))
took_in-phase want progress reference Admitted judged = refl
took_in-phase want progress reference Rejected judged = refl
took_in-phase want progress reference Ended judged = refl

took_phase : {R : Type 0} (want : Want) (progress : Progress R) (reference : Option R) (given : Option (Slot × ℕ)) → is_judged progress.phase ≡ false → (took_given given want progress reference).phase ≡ progress.phase
took_phase want progress reference None judged = took_in-phase want progress reference progress.phase judged
took_phase want progress reference (Some out) judged = refl

-- what its rules ask stays, once they don't
asks_same : {R : Type 0} (connection : Connection R) (answer : Answer) (reference : Option R) → is_judged connection.progress.phase ≡ false → asks (took connection answer reference) ≡ asks connection
asks_same connection answer reference judged =
    let not_asking : is_asking (asks connection) connection.progress ≡ false = ap (λ b. b && not (is_done (asks connection))) judged in
    ap (λ b. next connection.setup connection.samples (if b then connection.answers ++ answer ∷ [] else connection.answers)) not_asking

took_sound : {R : Type 0} (setup : Setup) (samples : Samples) (connection : Connection R) (answer : Answer) (reference : Option R) (judged : Bool) → is_judged connection.progress.phase ≡ judged → IsSound setup samples connection → IsSound setup samples (took connection answer reference)
unfolding took_of
took_sound setup samples connection answer reference true judged sound =
    let next_progress = took_judged (asks connection) connection.progress reference connection.progress.phase refl judged (sound.not_given judged) in
    record { setup_is = sound.setup_is; samples_are = sound.samples_are; verdict = λ at. absurd (not_judged _ at next_progress.0); not_given = λ _. next_progress.1 }
took_sound setup samples connection answer reference false judged sound =
    let same = took_phase (asks connection) connection.progress reference connection.progress.given judged in
    record {
      setup_is = sound.setup_is;
      samples_are = sound.samples_are;
      verdict = λ at. asks_same connection answer reference judged ∙ sound.verdict (sym same ∙ at);
      not_given = λ later. absurd (false≢true (sym judged ∙ ap is_judged (sym same) ∙ later));
    }

-- a refusal
skips : {R : Type 0} (need : Need) (progress : Progress R) → ((skipped need progress).phase ≡ progress.phase) × ((skipped need progress).given ≡ progress.given)
skips need progress = let same = skipped_leaves need progress in (ap (λ (p : Progress _). p.phase) same, ap (λ (p : Progress _). p.given) same)

-- while it is judged it is rejected, or stays
refused_before-phase : {R : Type 0} (asking : Bool) (need : Need) (progress : Progress R) → is_judged progress.phase ≡ true → progress.given ≡ None
    → ((refused_before asking need progress).phase ≡ Admitted → ⊥) × (is_judged (refused_before asking need progress).phase ≡ true → (refused_before asking need progress).given ≡ None)
refused_before-phase true need progress judged none = (λ at. cc, λ later. absurd (false≢true later))
refused_before-phase false need progress judged none =
    let same = skips need progress in
    (λ at. not_judged progress.phase (sym same.0 ∙ at) judged, λ _. same.1 ∙ none)

refused_judged : {R : Type 0} (want : Want) (progress : Progress R) (reference : Option R) (given : Option (Slot × ℕ)) → given ≡ None → is_judged progress.phase ≡ true → progress.given ≡ None
    → ((refused_given given want progress reference).phase ≡ Admitted → ⊥) × (is_judged (refused_given given want progress reference).phase ≡ true → (refused_given given want progress reference).given ≡ None)
refused_judged want progress reference None is judged none = refused_before-phase (is_asking want progress) (need_of want progress) progress judged none
refused_judged want progress reference (Some out) is judged none = cc

refused_before-same : {R : Type 0} (asking : Bool) (need : Need) (progress : Progress R) → asking ≡ false → (refused_before asking need progress).phase ≡ progress.phase
refused_before-same true need progress asking = cc
refused_before-same false need progress asking = (skips need progress).0

refused_phase : {R : Type 0} (want : Want) (progress : Progress R) (reference : Option R) (given : Option (Slot × ℕ)) → is_judged progress.phase ≡ false → (refused_given given want progress reference).phase ≡ progress.phase
refused_phase want progress reference None judged = refused_before-same (is_asking want progress) (need_of want progress) progress (ap (λ b. b && not (is_done want)) judged)
refused_phase want progress None (Some out) judged = refl
refused_phase want progress (Some reference) (Some out) judged = refl

refused_sound : {R : Type 0} (setup : Setup) (samples : Samples) (connection : Connection R) (reference : Option R) (judged : Bool) → is_judged connection.progress.phase ≡ judged → IsSound setup samples connection → IsSound setup samples (refused connection reference)
unfolding refused_of
refused_sound setup samples connection reference true judged sound =
    let none = sound.not_given judged in
    let later = refused_judged (asks connection) connection.progress reference connection.progress.given none judged none in
    record { setup_is = sound.setup_is; samples_are = sound.samples_are; verdict = λ at. absurd (later.0 at); not_given = later.1 }
refused_sound setup samples connection reference false judged sound =
    let same = refused_phase (asks connection) connection.progress reference connection.progress.given judged in
    record {
      setup_is = sound.setup_is;
      samples_are = sound.samples_are;
      verdict = λ at. sound.verdict (sym same ∙ at);
      not_given = λ later. absurd (false≢true (sym judged ∙ ap is_judged (sym same) ∙ later));
    }

-- a turn
by_verdict : (want : Want) → phase_by want ≡ Admitted → want ≡ wants.Done Accept
by_verdict (wants.Done Accept) at = refl
by_verdict (wants.Done Reject) at = cc
by_verdict (wants.Get table key) at = cc
by_verdict (wants.Track slot table key) at = cc
by_verdict (wants.Look slot) at = cc
by_verdict (wants.Count slot act) at = cc

judged_by-verdict : (want : Want) → is_judged (phase_by want) ≡ false
judged_by-verdict (wants.Done Accept) = refl
judged_by-verdict (wants.Done Reject) = refl
judged_by-verdict (wants.Get table key) = refl
judged_by-verdict (wants.Track slot table key) = refl
judged_by-verdict (wants.Look slot) = refl
judged_by-verdict (wants.Count slot act) = refl

turned_phase : (phase : Phase) (want : Want) → (phase_after phase want ≡ Admitted → want ≡ wants.Done Accept) × (is_judged (phase_after phase want) ≡ false)
turned_phase New want = (by_verdict want, judged_by-verdict want)
turned_phase Judging want = (by_verdict want, judged_by-verdict want)
turned_phase Admitted want = (λ at. cc, refl)
turned_phase Rejected want = (λ at. cc, refl)
turned_phase Ended want = (λ at. cc, refl)

turned_sound : {R : Type 0} (setup : Setup) (samples : Samples) (connection : Connection R) → IsSound setup samples connection → IsSound setup samples (turned connection)
turned_sound setup samples connection sound =
    let later = turned_phase connection.progress.phase (asks connection) in
    record { setup_is = sound.setup_is; samples_are = sound.samples_are; verdict = later.0; not_given = λ judged. absurd (false≢true (sym later.1 ∙ judged)) }

-- a reference that is handed out
no_release : (act : Option (Slot × Act)) → is_release (counting act needs.Turn) ≡ false
no_release None = refl
no_release (Some entry) = refl

judging_keeps : {R : Type 0} (want : Want) (progress : Progress R) → is_release (judging want progress) ≡ false
judging_keeps (wants.Get table key) progress = refl
judging_keeps (wants.Track slot table key) progress = refl
judging_keeps (wants.Look slot) progress = refl
judging_keeps (wants.Count slot act) progress = refl
judging_keeps (wants.Done Accept) progress = no_release (slice_get (sessions (holding progress.held)) progress.counted)
judging_keeps (wants.Done Reject) progress = refl

keeps_in : {R : Type 0} (want : Want) (progress : Progress R) (phase : Phase) → is_judged phase ≡ true → is_release (need_in phase want progress) ≡ false
keeps_in want progress New judged = judging_keeps want progress
keeps_in want progress Judging judged = judging_keeps want progress
keeps_in want progress Admitted judged = cc
keeps_in want progress Rejected judged = cc
keeps_in want progress Ended judged = cc

keeps : {R : Type 0} (want : Want) (progress : Progress R) (given : Option (Slot × ℕ)) → given ≡ None → is_judged progress.phase ≡ true → is_release (need_given given want progress) ≡ false
keeps want progress None is judged = keeps_in want progress progress.phase judged
keeps want progress (Some out) is judged = cc

gave_at-phase : {R : Type 0} (slot : Slot) (entry : Option (ℕ × R)) (progress : Progress R) → (gave_at slot entry progress).phase ≡ progress.phase
gave_at-phase slot None progress = refl
gave_at-phase slot (Some entry) progress = refl

gave_phase : {R : Type 0} (need : Need) (progress : Progress R) → (gave_of need progress).phase ≡ progress.phase
gave_phase (needs.Release slot) progress = gave_at-phase slot (held_at progress.held slot) progress
gave_phase (needs.Get table key) progress = refl
gave_phase (needs.Track slot table key) progress = refl
gave_phase (needs.Look slot) progress = refl
gave_phase (needs.Count slot act) progress = refl
gave_phase needs.Rest progress = refl
gave_phase needs.Turn progress = refl
gave_phase needs.Finished progress = refl

gave_sound : {R : Type 0} (setup : Setup) (samples : Samples) (connection : Connection R) → is_release (need connection) ≡ true → IsSound setup samples connection → IsSound setup samples (gave connection)
unfolding need_of
gave_sound setup samples connection release sound =
    let same = gave_phase (need connection) connection.progress in
    record {
      setup_is = sound.setup_is;
      samples_are = sound.samples_are;
      verdict = λ at. sound.verdict (sym same ∙ at);
      not_given = λ later.
          let judged : is_judged connection.progress.phase ≡ true = ap is_judged (sym same) ∙ later in
          absurd (false≢true (sym (keeps (asks connection) connection.progress connection.progress.given (sound.not_given judged) judged) ∙ release));
    }

-- whatever happens
happened_sound : {R : Type 0} (setup : Setup) (samples : Samples) (connection : Connection R) (happening : Happening R) → May connection happening → IsSound setup samples connection → IsSound setup samples (after connection happening)
happened_sound setup samples connection (answered answer reference) may sound = took_sound setup samples connection answer reference (is_judged connection.progress.phase) refl sound
happened_sound setup samples connection (was_refused reference) may sound = refused_sound setup samples connection reference (is_judged connection.progress.phase) refl sound
happened_sound setup samples connection turns may sound = turned_sound setup samples connection sound
happened_sound setup samples connection (closes i o) may sound = record { setup_is = sound.setup_is; samples_are = sound.samples_are; verdict = sound.verdict; not_given = sound.not_given }
happened_sound setup samples connection gives may sound = gave_sound setup samples connection may.0 sound

lives_sound : {R : Type 0} (setup : Setup) (samples : Samples) (old : Connection R) (history : List (Happening R)) (new : Connection R) → Lives old history new → IsSound setup samples old → IsSound setup samples new
lives_sound setup samples old [] new lives sound = subst (IsSound setup samples) (sym lives) sound
lives_sound setup samples old (happening ∷ more) new lives sound = lives_sound setup samples (after old happening) more new lives.1 (happened_sound setup samples old happening lives.0 sound)

pub admitted_law : {R : Type 0} → AdmittedLaw R
admitted_law setup samples history connection lives admitted =
    let sound = lives_sound setup samples (arrived setup samples) history connection lives (record { setup_is = refl; samples_are = refl; verdict = λ at. cc; not_given = λ _. refl }) in
    ap (λ s. next s samples connection.answers) (sym sound.setup_is) ∙ ap (λ m. next connection.setup m connection.answers) (sym sound.samples_are) ∙ sound.verdict admitted
