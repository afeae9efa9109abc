-- Behind its verdict a connection goes on alike, whatever its samples and its answers are.
use Rattle.std.proofs.Common.{◌≡◌, inl, inr, ℕ, refl, sym, ap, ◌∙◌, false, not, ◌&&◌, List, [], ◌∷◌, ◌++◌, Option, Some, None}
use Rattle.std.specs.Prelude.{if◌then◌else◌}
use Rattle.std.proofs.lemmas.Bool.{false≢true}
use Rattle.stick_model.specs.Step.{after}
use Rattle.stick_model.specs.declared.replies.Reply.{Reply}
use Rattle.stick_model.specs.declared.replies.Reply.TheVariants as replies
use Rattle.rule_model.specs.declared.actions.Slot.{Slot}
use Rattle.rule_eval.specs.Left.{is_done}
use Rattle.rule_eval.specs.declared.wants.Answer.{Answer}
use Rattle.rule_eval.specs.declared.wants.Answer.TheVariants as answers
use Rattle.rule_eval.specs.declared.wants.Samples.{Samples}
use Rattle.rule_eval.specs.declared.wants.Want.{Want}
use Rattle.admit_core.specs.Connection.{Connection, Progress, asks, gave, gave_at, gave_of, is_judged, need, need_given, need_in, need_of, phase_after, took, took_given, took_in, took_of}
use Rattle.admit_core.specs.Held.{held_at}
use Rattle.admit_core.specs.declared.need.Need.{Need}
use Rattle.admit_core.specs.declared.need.Need.TheVariants as needs
use Rattle.admit_core.specs.declared.need.Phase.{Phase}
use Rattle.admit_core.specs.declared.need.Phase.TheVariants.{New, Judging, Admitted, Rejected, Ended}
use Rattle.admit_drive.specs.Calls.{call_of, heard}
use Rattle.shard_port.specs.declared.reference.Reference.{Reference}
use Rattle.admit_drive.proofs.OneMoveLemmas.{Moved, View, quiet_of}

abbrev pub as_told : Samples → List Answer → Connection Reference → Connection Reference
as_told samples given connection = record connection { samples = samples; answers = given }

-- ---- what it wants doesn't follow from what its rules ask

in_behind : (phase : Phase) (want other : Want) (progress : Progress Reference) → is_judged phase ≡ false → need_in phase want progress ≡ need_in phase other progress
in_behind New want other progress judged = absurd (false≢true (sym judged))
in_behind Judging want other progress judged = absurd (false≢true (sym judged))
in_behind Admitted want other progress judged = refl
in_behind Rejected want other progress judged = refl
in_behind Ended want other progress judged = refl

given_behind : (given : Option (Slot × ℕ)) (want other : Want) (progress : Progress Reference) → is_judged progress.phase ≡ false → need_given given want progress ≡ need_given given other progress
given_behind None want other progress judged = in_behind progress.phase want other progress judged
given_behind (Some out) want other progress judged = refl

took_in_behind : (phase : Phase) (want other : Want) (progress : Progress Reference) (reference : Option Reference) → is_judged phase ≡ false → took_in phase want progress reference ≡ took_in phase other progress reference
took_in_behind New want other progress reference judged = absurd (false≢true (sym judged))
took_in_behind Judging want other progress reference judged = absurd (false≢true (sym judged))
took_in_behind Admitted want other progress reference judged = refl
took_in_behind Rejected want other progress reference judged = refl
took_in_behind Ended want other progress reference judged = refl

took_given_behind : (given : Option (Slot × ℕ)) (want other : Want) (progress : Progress Reference) (reference : Option Reference) → is_judged progress.phase ≡ false → took_given given want progress reference ≡ took_given given other progress reference
took_given_behind None want other progress reference judged = took_in_behind progress.phase want other progress reference judged
took_given_behind (Some out) want other progress reference judged = refl

phase_behind : (phase : Phase) (want other : Want) → is_judged phase ≡ false → phase_after phase want ≡ phase_after phase other
phase_behind New want other judged = absurd (false≢true (sym judged))
phase_behind Judging want other judged = absurd (false≢true (sym judged))
phase_behind Admitted want other judged = refl
phase_behind Rejected want other judged = refl
phase_behind Ended want other judged = refl

-- ---- it stays behind its verdict

turned_behind : (phase : Phase) (want : Want) → is_judged phase ≡ false → is_judged (phase_after phase want) ≡ false
turned_behind New want judged = absurd (false≢true (sym judged))
turned_behind Judging want judged = absurd (false≢true (sym judged))
turned_behind Admitted want judged = refl
turned_behind Rejected want judged = refl
turned_behind Ended want judged = refl

in_phase : (phase : Phase) (want : Want) (progress : Progress Reference) (reference : Option Reference) → is_judged phase ≡ false → (took_in phase want progress reference).phase ≡ progress.phase
in_phase New want progress reference judged = absurd (false≢true (sym judged))
in_phase Judging want progress reference judged = absurd (false≢true (sym judged))
in_phase Admitted want progress reference judged = refl
in_phase Rejected want progress reference judged = refl
in_phase Ended want progress reference judged = refl

given_phase : (given : Option (Slot × ℕ)) (want : Want) (progress : Progress Reference) (reference : Option Reference) → is_judged progress.phase ≡ false → (took_given given want progress reference).phase ≡ progress.phase
given_phase None want progress reference judged = in_phase progress.phase want progress reference judged
given_phase (Some out) want progress reference judged = refl

at_phase : (slot : Slot) (entry : Option (ℕ × Reference)) (progress : Progress Reference) → (gave_at slot entry progress).phase ≡ progress.phase
at_phase slot None progress = refl
at_phase slot (Some entry) progress = refl

gave_phase : (wanted : Need) (progress : Progress Reference) → (gave_of wanted progress).phase ≡ progress.phase
gave_phase (needs.Release slot) progress = at_phase slot (held_at progress.held slot) progress
gave_phase (needs.Get table key) progress = refl
gave_phase (needs.Track slot table key) progress = refl
gave_phase (needs.Look slot) progress = refl
gave_phase (needs.Count slot act) progress = refl
gave_phase needs.Rest progress = refl
gave_phase needs.Turn progress = refl
gave_phase needs.Finished progress = refl

module _ (samples : Samples) (given : List Answer) where
  pub need_told : (connection : Connection Reference) → is_judged connection.progress.phase ≡ false → need connection ≡ need (as_told samples given connection)
  unfolding need_of
  need_told connection judged = given_behind connection.progress.given (asks connection) (asks (as_told samples given connection)) connection.progress judged

  took_told : (connection : Connection Reference) (answer : Answer) (reference : Option Reference) → is_judged connection.progress.phase ≡ false
      → (as_told samples given (took connection answer reference) ≡ took (as_told samples given connection) answer reference) × (is_judged (took connection answer reference).progress.phase ≡ false)
  unfolding took_of
  took_told connection answer reference judged =
      let other : Want = asks (as_told samples given connection) in (
        (λ i. record (as_told samples given connection) {
          answers = if (sym judged i && not (is_done other)) then given ++ answer ∷ [] else given;
          progress = took_given_behind connection.progress.given (asks connection) other connection.progress reference judged i;
        }),
        ap is_judged (given_phase connection.progress.given (asks connection) connection.progress reference judged) ∙ judged,
      )

  gave_told : (connection : Connection Reference) → is_judged connection.progress.phase ≡ false → as_told samples given (gave connection) ≡ gave (as_told samples given connection)
  gave_told connection judged = (λ i. record (as_told samples given connection) { progress = gave_of (need_told connection judged i) connection.progress })

  heard_told : (connection : Connection Reference) (shard : ℕ) (reply : Reply) → is_judged connection.progress.phase ≡ false
      → (as_told samples given (heard connection shard reply) ≡ heard (as_told samples given connection) shard reply) × (is_judged (heard connection shard reply).progress.phase ≡ false)
  heard_told connection shard replies.Released judged =
      let both = took_told (gave connection) answers.Released None (ap is_judged (gave_phase (need connection) connection.progress) ∙ judged) in
      (both.0 ∙ ap (λ (c : Connection Reference). took c answers.Released None) (gave_told connection judged), both.1)
  heard_told connection shard (replies.Tracked ticket row) judged = took_told connection answers.Tracked (Some (record { shard = shard; ticket = ticket })) judged
  heard_told connection shard replies.Absent judged = took_told connection answers.Absent None judged
  heard_told connection shard (replies.Row row) judged = took_told connection (answers.Row row) None judged
  heard_told connection shard replies.NoRefs judged = took_told connection answers.Untracked None judged
  heard_told connection shard replies.Full judged = took_told connection answers.Untracked None judged
  heard_told connection shard (replies.Value value) judged = took_told connection (answers.Value value) None judged
  heard_told connection shard (replies.NotSettable datum) judged = took_told connection answers.Untracked None judged
  heard_told connection shard (replies.NotStored datum) judged = took_told connection answers.Untracked None judged
  heard_told connection shard (replies.Written created) judged = took_told connection answers.Untracked None judged
  heard_told connection shard replies.InUse judged = took_told connection answers.Untracked None judged
  heard_told connection shard replies.Removed judged = took_told connection answers.Untracked None judged
  heard_told connection shard (replies.Cleared removed kept) judged = took_told connection answers.Untracked None judged
  heard_told connection shard (replies.Rows used rows) judged = took_told connection answers.Untracked None judged
  heard_told connection shard (replies.Expired count) judged = took_told connection answers.Untracked None judged

  quiet_told : (connection : Connection Reference) (wanted : Need) → is_judged connection.progress.phase ≡ false
      → (as_told samples given (quiet_of connection wanted) ≡ quiet_of (as_told samples given connection) wanted) × (is_judged (quiet_of connection wanted).progress.phase ≡ false)
  quiet_told connection needs.Turn judged = (
    (λ i. record (as_told samples given connection) { progress = record (connection.progress) { phase = phase_behind connection.progress.phase (asks connection) (asks (as_told samples given connection)) judged i } }),
    turned_behind connection.progress.phase (asks connection) judged,
  )
  quiet_told connection needs.Rest judged = (refl, judged)
  quiet_told connection needs.Finished judged = (refl, judged)
  quiet_told connection (needs.Get table key) judged = (refl, judged)
  quiet_told connection (needs.Track slot table key) judged = (refl, judged)
  quiet_told connection (needs.Look slot) judged = (refl, judged)
  quiet_told connection (needs.Count slot act) judged = (refl, judged)
  quiet_told connection (needs.Release slot) judged = (refl, judged)

  -- a move behind the verdict
  pub moved_told : (now : ℕ) (old new : View) (connection later : Connection Reference) → is_judged connection.progress.phase ≡ false → Moved now old connection new later
      → Moved now old (as_told samples given connection) new (as_told samples given later) × (is_judged later.progress.phase ≡ false)
  moved_told now old new connection later judged (inl quiet) =
      let wants = need_told connection judged in
      let both = quiet_told connection (need connection) judged in (
        inl (record {
          none = ap (call_of connection.setup.shards now connection.progress.held) (sym wants) ∙ quiet.none;
          becomes = ap (as_told samples given) quiet.becomes ∙ both.0 ∙ ap (quiet_of (as_told samples given connection)) wants;
          same = quiet.same;
        }),
        ap (λ (c : Connection Reference). is_judged c.progress.phase) quiet.becomes ∙ both.1,
      )
  moved_told now old new connection later judged (inr told) =
      let wants = need_told connection judged in
      let both = heard_told connection told.call.shard (after told.before told.call.event 0).0 judged in (
        inr (record {
          call = told.call;
          before = told.before;
          asked = ap (call_of connection.setup.shards now connection.progress.held) (sym wants) ∙ told.asked;
          at = told.at;
          becomes = ap (as_told samples given) told.becomes ∙ both.0;
          is = told.is;
        }),
        ap (λ (c : Connection Reference). is_judged c.progress.phase) told.becomes ∙ both.1,
      )
