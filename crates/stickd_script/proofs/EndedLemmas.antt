-- One that has ended holds nothing.
use Rattle.std.proofs.Common.{◌≡◌, ℕ, zero, suc, ◌+◌, refl, sym, ap, subst, ◌∙◌, Bool, true, false, Option, Some, None, List, []}
use Rattle.std.proofs.lemmas.Bool.{false≢true}
use Rattle.rule_model.specs.declared.actions.Slot.{Slot}
use Rattle.rule_eval.specs.declared.wants.Answer.{Answer}
use Rattle.rule_eval.specs.declared.wants.Answer.TheVariants.{Released}
use Rattle.rule_eval.specs.declared.wants.Verdict.TheVariants.{Accept, Reject}
use Rattle.rule_eval.specs.declared.wants.Want.{Want}
use Rattle.rule_eval.specs.declared.wants.Want.TheVariants as wants
use Rattle.admit_core.specs.Connection.{Connection, Progress, asks, gave, gave_at, gave_of, heard as heard_by, is_asking, is_judged, need, need_given, need_in, need_of, phase_by, refused, refused_before, refused_given, refused_of, skipped, took, took_given, took_in, took_of, turned}
use Rattle.admit_core.specs.Held.{held_at, holding}
use Rattle.admit_core.proofs.HistoryLemmas.{ended_law}
use Rattle.admit_core.specs.declared.held.Held.{Held}
use Rattle.admit_core.specs.declared.need.Need.{Need}
use Rattle.admit_core.specs.declared.need.Need.TheVariants as needs
use Rattle.admit_core.specs.declared.need.Phase.{Phase}
use Rattle.admit_core.specs.declared.need.Phase.TheVariants.{New, Judging, Admitted, Rejected, Ended}
use Rattle.stick_model.specs.declared.replies.Reply.{Reply}
use Rattle.stick_model.specs.declared.replies.Reply.TheVariants as replies
use Rattle.admit_drive.specs.Balance.{times_by, times_in}
use Rattle.admit_drive.specs.Calls.{call_of, heard, reference_of}
use Rattle.admit_port.specs.Calls.{answer_of}
use Rattle.admit_drive.specs.Moves.{Goes, Makes, MovesBy}
use Rattle.admit_drive.specs.Tables.{TableState}
use Rattle.shard_port.specs.declared.reference.Reference.{Reference}
use Rattle.admit_core.proofs.SkippedLemmas.{skipped_leaves}

-- ---- one that has ended

-- it holds nothing, and nothing is handed out
pub record IsEmpty {R : Type 0} (progress : Progress R) : Type 0 where
  pub holds : holding progress.held ≡ []
  pub given : progress.given ≡ None

abbrev pub EndsEmpty : {R : Type 0} → Progress R → Type 0
EndsEmpty progress = progress.phase ≡ Ended → IsEmpty progress

by_phase : (want : Want) → phase_by want ≡ Ended → ⊥
by_phase (wants.Get table key) is = cc
by_phase (wants.Track slot table key) is = cc
by_phase (wants.Look slot) is = cc
by_phase (wants.Count slot act) is = cc
by_phase (wants.Done Accept) is = cc
by_phase (wants.Done Reject) is = cc

heard_empty : {R : Type 0} (want : Want) (progress : Progress R) (reference : Option R) → EndsEmpty progress → EndsEmpty (heard_by want progress reference)
heard_empty (wants.Get table key) progress reference before is = absurd (cc)
heard_empty (wants.Track slot table key) progress reference before is = absurd (cc)
heard_empty (wants.Look slot) progress reference before is = absurd (cc)
heard_empty (wants.Count slot act) progress reference before is = absurd (cc)
heard_empty (wants.Done verdict) progress reference before is = record { holds = (before is).holds; given = (before is).given }

took_in-empty : {R : Type 0} (phase : Phase) (want : Want) (progress : Progress R) (reference : Option R) → EndsEmpty progress → EndsEmpty (took_in phase want progress reference)
took_in-empty New want progress reference before = heard_empty want progress reference before
took_in-empty Judging want progress reference before = heard_empty want progress reference before
took_in-empty Admitted want progress reference before = λ is. record { holds = (before is).holds; given = (before is).given }
took_in-empty Rejected want progress reference before = λ is. record { holds = (before is).holds; given = (before is).given }
took_in-empty Ended want progress reference before = λ is. record { holds = (before is).holds; given = (before is).given }

took_given-empty : {R : Type 0} (given : Option (Slot × ℕ)) (want : Want) (progress : Progress R) (reference : Option R) → EndsEmpty progress → EndsEmpty (took_given given want progress reference)
took_given-empty None want progress reference before = took_in-empty progress.phase want progress reference before
took_given-empty (Some out) want progress reference before = λ is. record { holds = (before is).holds; given = refl }

took_empty : {R : Type 0} (connection : Connection R) (answer : Answer) (reference : Option R) → EndsEmpty connection.progress → EndsEmpty (took connection answer reference).progress
unfolding took_of
took_empty connection answer reference before = took_given-empty connection.progress.given (asks connection) connection.progress reference before

skipped_empty : {R : Type 0} (wanted : Need) (progress : Progress R) → EndsEmpty progress → EndsEmpty (skipped wanted progress)
skipped_empty wanted progress before =
    let same = skipped_leaves wanted progress in
    subst EndsEmpty (sym same) (λ is. record { holds = (before is).holds; given = (before is).given })

before_empty : {R : Type 0} (asking : Bool) (wanted : Need) (progress : Progress R) → EndsEmpty progress → EndsEmpty (refused_before asking wanted progress)
before_empty true wanted progress before = λ is. absurd (cc)
before_empty false wanted progress before = skipped_empty wanted progress before

-- what is handed out is of one that hasn't ended
refused_given-empty : {R : Type 0} (given : Option (Slot × ℕ)) (want : Want) (progress : Progress R) (reference : Option R) → progress.given ≡ given → EndsEmpty progress → EndsEmpty (refused_given given want progress reference)
refused_given-empty None want progress reference is before = before_empty (is_asking want progress) (need_of want progress) progress before
refused_given-empty (Some out) want progress None is before = before
refused_given-empty (Some out) want progress (Some reference) is before = λ ended. let none : progress.given ≡ None = (before ended).given in absurd (cc)

refused_empty : {R : Type 0} (connection : Connection R) (reference : Option R) → EndsEmpty connection.progress → EndsEmpty (refused connection reference).progress
unfolding refused_of
refused_empty connection reference before = refused_given-empty connection.progress.given (asks connection) connection.progress reference refl before

turned_empty : {R : Type 0} (connection : Connection R) (judged : Bool) → is_judged connection.progress.phase ≡ judged → need connection ≡ needs.Turn → EndsEmpty (turned connection).progress
turned_empty connection true judged turning = λ ended. absurd (by_turn connection.progress.phase judged ended)
  where
    by_turn : (phase : Phase) → is_judged phase ≡ true → Rattle.admit_core.specs.Connection.phase_after phase (asks connection) ≡ Ended → ⊥
    by_turn New judged ended = by_phase (asks connection) ended
    by_turn Judging judged ended = by_phase (asks connection) ended
    by_turn Admitted judged ended = false≢true judged
    by_turn Rejected judged ended = false≢true judged
    by_turn Ended judged ended = false≢true judged
turned_empty connection false judged turning = λ ended. let both = ended_law connection judged turning in record { holds = both.0; given = both.1 }

gave_at-phase : {R : Type 0} (slot : Slot) (entry : Option (ℕ × R)) (progress : Progress R) → (gave_at slot entry progress).phase ≡ progress.phase
gave_at-phase slot None progress = refl
gave_at-phase slot (Some entry) progress = refl

gave_phase : {R : Type 0} (wanted : Need) (progress : Progress R) → (gave_of wanted progress).phase ≡ progress.phase
gave_phase (needs.Get table key) progress = refl
gave_phase (needs.Track slot table key) progress = refl
gave_phase (needs.Look slot) progress = refl
gave_phase (needs.Count slot act) progress = refl
gave_phase (needs.Release slot) progress = gave_at-phase slot (held_at progress.held slot) progress
gave_phase needs.Rest progress = refl
gave_phase needs.Turn progress = refl
gave_phase needs.Finished progress = refl

-- one that has ended wants no release
finished : {R : Type 0} (connection : Connection R) → connection.progress.phase ≡ Ended → connection.progress.given ≡ None → need connection ≡ needs.Finished
unfolding need_of
finished connection ended none =
    ap (λ g. need_given g (asks connection) connection.progress) none ∙ ap (λ p. need_in p (asks connection) connection.progress) ended

gave_empty : {R : Type 0} (connection : Connection R) → EndsEmpty connection.progress → EndsEmpty (gave connection).progress
gave_empty connection before = λ ended.
    let still : connection.progress.phase ≡ Ended = sym (gave_phase (need connection) connection.progress) ∙ ended in
    let same : connection.progress ≡ (gave connection).progress = sym (ap (λ w. gave_of w connection.progress) (finished connection still (before still).given)) in
    subst IsEmpty same (before still)

-- ---- as it goes on

heard_of-empty : (connection : Connection Reference) (shard : ℕ) (reply : Reply) → EndsEmpty connection.progress → EndsEmpty (heard connection shard reply).progress
heard_of-empty connection shard replies.Released before = took_empty (gave connection) Released None (gave_empty connection before)
heard_of-empty connection shard replies.Absent before = took_empty connection (answer_of replies.Absent) (reference_of shard replies.Absent) before
heard_of-empty connection shard (replies.Row row) before = took_empty connection (answer_of (replies.Row row)) (reference_of shard (replies.Row row)) before
heard_of-empty connection shard replies.NoRefs before = took_empty connection (answer_of replies.NoRefs) (reference_of shard replies.NoRefs) before
heard_of-empty connection shard replies.Full before = took_empty connection (answer_of replies.Full) (reference_of shard replies.Full) before
heard_of-empty connection shard (replies.Tracked ticket row) before = took_empty connection (answer_of (replies.Tracked ticket row)) (reference_of shard (replies.Tracked ticket row)) before
heard_of-empty connection shard (replies.Value value) before = took_empty connection (answer_of (replies.Value value)) (reference_of shard (replies.Value value)) before
heard_of-empty connection shard (replies.NotSettable datum) before = took_empty connection (answer_of (replies.NotSettable datum)) (reference_of shard (replies.NotSettable datum)) before
heard_of-empty connection shard (replies.NotStored datum) before = took_empty connection (answer_of (replies.NotStored datum)) (reference_of shard (replies.NotStored datum)) before
heard_of-empty connection shard (replies.Written created) before = took_empty connection (answer_of (replies.Written created)) (reference_of shard (replies.Written created)) before
heard_of-empty connection shard replies.InUse before = took_empty connection (answer_of replies.InUse) (reference_of shard replies.InUse) before
heard_of-empty connection shard replies.Removed before = took_empty connection (answer_of replies.Removed) (reference_of shard replies.Removed) before
heard_of-empty connection shard (replies.Cleared removed kept) before = took_empty connection (answer_of (replies.Cleared removed kept)) (reference_of shard (replies.Cleared removed kept)) before
heard_of-empty connection shard (replies.Rows used rows) before = took_empty connection (answer_of (replies.Rows used rows)) (reference_of shard (replies.Rows used rows)) before
heard_of-empty connection shard (replies.Expired count) before = took_empty connection (answer_of (replies.Expired count)) (reference_of shard (replies.Expired count)) before

makes_empty : (now : ℕ) (old : List TableState) (connection : Connection Reference) (wanted : Need) (new : List TableState) (after : Connection Reference) (was_refused : Bool) → EndsEmpty connection.progress
    → Makes old connection (call_of connection.setup.shards now connection.progress.held wanted) new after was_refused → EndsEmpty after.progress
makes_empty now old connection wanted new after false before makes =
    elim (call_of connection.setup.shards now connection.progress.held wanted) as (λ call. Makes old connection call new after false → EndsEmpty after.progress) [
      | None ↦ λ makes. absurd makes
      | Some call ↦ λ makes. subst (λ (c : Connection Reference). EndsEmpty c.progress) (sym makes.2) (heard_of-empty connection call.shard makes.0 before)
    ] makes
makes_empty now old connection wanted new after true before makes = subst (λ (c : Connection Reference). EndsEmpty c.progress) (sym makes.2) (refused_empty connection None before)

moves_empty : (now : ℕ) (old : List TableState) (connection : Connection Reference) (wanted : Need) (new : List TableState) (after : Connection Reference) (was_refused : Bool) → need connection ≡ wanted → EndsEmpty connection.progress
    → MovesBy now old connection wanted new after was_refused → EndsEmpty after.progress
moves_empty now old connection needs.Rest new after was_refused is before moves = subst (λ (c : Connection Reference). EndsEmpty c.progress) (sym moves.1) before
moves_empty now old connection needs.Finished new after was_refused is before moves = subst (λ (c : Connection Reference). EndsEmpty c.progress) (sym moves.1) before
moves_empty now old connection needs.Turn new after was_refused is before moves =
    subst (λ (c : Connection Reference). EndsEmpty c.progress) (sym moves.1) (turned_empty connection (is_judged connection.progress.phase) refl is)
moves_empty now old connection (needs.Get table key) new after was_refused is before moves = makes_empty now old connection (needs.Get table key) new after was_refused before moves
moves_empty now old connection (needs.Track slot table key) new after was_refused is before moves = makes_empty now old connection (needs.Track slot table key) new after was_refused before moves
moves_empty now old connection (needs.Look slot) new after was_refused is before moves = makes_empty now old connection (needs.Look slot) new after was_refused before moves
moves_empty now old connection (needs.Count slot act) new after was_refused is before moves = makes_empty now old connection (needs.Count slot act) new after was_refused before moves
moves_empty now old connection (needs.Release slot) new after was_refused is before moves = makes_empty now old connection (needs.Release slot) new after was_refused before moves

pub goes_empty : (now count : ℕ) (old : List TableState) (connection : Connection Reference) (new : List TableState) (after : Connection Reference) → EndsEmpty connection.progress → Goes now count old connection new after → EndsEmpty after.progress
goes_empty now zero old connection new after before goes = subst (λ (c : Connection Reference). EndsEmpty c.progress) (sym goes.1) before
goes_empty now (suc count) old connection new after before goes =
    goes_empty now count goes.0 goes.1 new after (moves_empty now old connection (need connection) goes.0 goes.1 goes.2 refl before goes.3) goes.4

-- ---- what it holds then

none_held : (held : Held Reference) (reference : ℕ × Reference) → holding held ≡ [] → times_by reference held ≡ 0
none_held held reference empty = go held.sc0 held.sc1 held.sc2 empty
  where
    go : (a b c : Option (ℕ × Reference)) → holding (record { sc0 = a; sc1 = b; sc2 = c }) ≡ [] → times_in reference a + times_in reference b + times_in reference c ≡ 0
    go None None None empty = refl
    go (Some x) b c empty = cc
    go None (Some y) c empty = cc
    go None None (Some z) empty = cc

-- one that has ended holds no reference
pub ended_holds : (progress : Progress Reference) (reference : ℕ × Reference) → EndsEmpty progress → progress.phase ≡ Ended → times_by reference progress.held ≡ 0
ended_holds progress reference empty ended = none_held progress.held reference (empty ended).holds
