-- Whatever a connection does, it holds what its rules track while they judge it, and is admitted by their verdict alone.
use Rattle.std.proofs.Common.{◌≡◌, ℕ, ◌+◌, refl, sym, ap, subst, ◌∙◌, Bool, true, false, not, ◌&&◌, if◌then◌else◌, List, [], ◌∷◌, ◌++◌, slice_get, Option, Some, None, is_some}
use Rattle.std.proofs.lemmas.Bool.{false≢true}
use Rattle.stored_data.specs.declared.act.Act.{Act}
use Rattle.rule_model.specs.declared.actions.Slot.{Slot}
use Rattle.rule_model.specs.declared.actions.Slot.TheVariants.{Sc0, Sc1, Sc2}
use Rattle.rule_model.specs.declared.sections.Setup.{Setup}
use Rattle.rule_eval.specs.Left.{is_done}
use Rattle.rule_eval.specs.Slots.{slot_of, with_slot}
use Rattle.rule_eval.specs.Tracking.{is_free, slots_by, slots_from}
use Rattle.rule_eval.specs.Verdict.{Course, next, slots_after}
use Rattle.rule_eval.specs.declared.slots.Slots.{Slots}
use Rattle.rule_eval.specs.declared.wants.Answer.{Answer}
use Rattle.rule_eval.specs.declared.wants.Answer.TheVariants as answers
use Rattle.rule_eval.specs.declared.wants.Samples.{Samples}
use Rattle.rule_eval.specs.declared.wants.Verdict.TheVariants.{Accept, Reject}
use Rattle.rule_eval.specs.declared.wants.Want.{Want}
use Rattle.rule_eval.specs.declared.wants.Want.TheVariants as wants
use Rattle.rule_eval.proofs.TrackingLemmas.{free_lem}
use Rattle.admit_core.specs.Connection.{Connection, Progress, arrived, asks, closed, counting, gave, gave_at, gave_of, held_after, is_asking, is_judged, judging, need, need_given, need_in, need_of, phase_after, phase_by, refused, refused_before, refused_given, refused_of, sessions, skipped, took, took_given, took_in, took_of, turned, wants_held}
use Rattle.admit_core.specs.Held.{held_at, held_with, holding, table_of, tables_of}
use Rattle.admit_core.specs.declared.held.Held.{Held}
use Rattle.admit_core.specs.declared.need.Need.{Need}
use Rattle.admit_core.specs.declared.need.Need.TheVariants as needs
use Rattle.admit_core.specs.declared.need.Phase.{Phase}
use Rattle.admit_core.specs.declared.need.Phase.TheVariants.{New, Judging, Admitted, Rejected, Ended}
use Rattle.admit_drive.specs.Lived.{IsLived}
use Rattle.shard_port.specs.declared.reference.Reference.{Reference}
use Rattle.admit_drive.proofs.HeldLemmas.{track_in}
use Rattle.admit_core.proofs.SkippedLemmas.{skipped_leaves}

-- ---- what the rules track, and what is held

-- an answer more
slots_more : (course : Course) (slots : Slots) (before : List Answer) (answer : Answer) → slots_from course slots (before ++ answer ∷ []) ≡ slots_after (slots_from course slots before) (course before) answer
slots_more course slots [] answer = refl
slots_more course slots (first ∷ rest) answer = slots_more (λ later. course (first ∷ later)) (slots_after slots (course []) first) rest answer

tables_with : (held : Held Reference) (slot : Slot) (table : ℕ) (reference : Reference) → tables_of (held_with held slot (Some (table, reference))) ≡ with_slot (tables_of held) slot table
unfolding tables_of
tables_with held Sc0 table reference = refl
tables_with held Sc1 table reference = refl
tables_with held Sc2 table reference = refl

pub tracked_heard : (held : Held Reference) (want : Want) (reference : Reference) → tables_of (held_after held want (Some reference)) ≡ slots_after (tables_of held) want answers.Tracked
tracked_heard held (wants.Track slot table key) reference = tables_with held slot table reference
tracked_heard held (wants.Get table key) reference = refl
tracked_heard held (wants.Look slot) reference = refl
tracked_heard held (wants.Count slot act) reference = refl
tracked_heard held (wants.Done verdict) reference = refl

abbrev pub is_tracked : Answer → Bool
is_tracked answers.Tracked = true
is_tracked answer = false

pub other_heard : (held : Held Reference) (want : Want) (answer : Answer) → is_tracked answer ≡ false → tables_of (held_after held want None) ≡ slots_after (tables_of held) want answer
other_heard held (wants.Get table key) answer other = refl
other_heard held (wants.Look slot) answer other = refl
other_heard held (wants.Count slot act) answer other = refl
other_heard held (wants.Done verdict) answer other = refl
other_heard held (wants.Track slot table key) answers.Tracked other = absurd (false≢true (sym other))
other_heard held (wants.Track slot table key) answers.Untracked other = refl
other_heard held (wants.Track slot table key) answers.Absent other = refl
other_heard held (wants.Track slot table key) (answers.Row row) other = refl
other_heard held (wants.Track slot table key) (answers.Value value) other = refl
other_heard held (wants.Track slot table key) answers.Released other = refl

-- ---- no slot is wanted twice

table_at : (held : Held Reference) (slot : Slot) → is_some (slot_of (tables_of held) slot) ≡ is_some (held_at held slot)
unfolding tables_of
table_at held Sc0 = some held.sc0
  where
    some : (o : Option (ℕ × Reference)) → is_some (table_of o) ≡ is_some o
    some None = refl
    some (Some entry) = refl
table_at held Sc1 = some held.sc1
  where
    some : (o : Option (ℕ × Reference)) → is_some (table_of o) ≡ is_some o
    some None = refl
    some (Some entry) = refl
table_at held Sc2 = some held.sc2
  where
    some : (o : Option (ℕ × Reference)) → is_some (table_of o) ≡ is_some o
    some None = refl
    some (Some entry) = refl

not_some : (b : Bool) → not b ≡ true → b ≡ false
not_some true is = absurd (false≢true is)
not_some false is = refl

track_free : (connection : Connection Reference) (slot : Slot) (table : ℕ) (key : List ℕ) → IsLived connection → need connection ≡ needs.Track slot table key → is_some (held_at connection.progress.held slot) ≡ false
unfolding need_of
track_free connection slot table key lived is =
    let asked = track_in connection.progress.phase (asks connection) connection.progress slot table key (sym (ap (λ g. need_given g (asks connection) connection.progress) lived.given) ∙ is) in
    let free : is_free (slots_by connection.setup connection.samples connection.answers) (wants.Track slot table key) ≡ true =
    ap (is_free (slots_by connection.setup connection.samples connection.answers)) (sym asked.1) ∙ free_lem connection.setup connection.samples connection.answers in
    sym (table_at connection.progress.held slot) ∙ ap (λ (s : Slots). is_some (slot_of s slot)) (lived.tracks asked.0) ∙ not_some (is_some (slot_of (slots_by connection.setup connection.samples connection.answers) slot)) free

pub lived_free : (connection : Connection Reference) → IsLived connection → wants_held connection.progress.held (need connection) ≡ false
lived_free connection lived = by (need connection) refl
  where
    by : (wanted : Need) → need connection ≡ wanted → wants_held connection.progress.held wanted ≡ false
    by (needs.Track slot table key) is = track_free connection slot table key lived is
    by (needs.Get table key) is = refl
    by (needs.Look slot) is = refl
    by (needs.Count slot act) is = refl
    by (needs.Release slot) is = refl
    by needs.Rest is = refl
    by needs.Turn is = refl
    by needs.Finished is = refl

-- ---- it comes, and is closed

pub arrived_lived : (setup : Setup) (samples : Samples) → IsLived (arrived setup samples)
unfolding tables_of
arrived_lived setup samples = record { tracks = λ judged. refl; accepted = λ at. cc; given = refl }

pub closed_lived : (connection : Connection Reference) (bytes_in bytes_out : ℕ) → IsLived connection → IsLived (closed connection bytes_in bytes_out)
closed_lived connection bytes_in bytes_out lived = record { tracks = lived.tracks; accepted = lived.accepted; given = lived.given }

-- ---- an answer

asked_progress : (phase : Phase) (want : Want) (progress : Progress Reference) (reference : Option Reference) → (is_judged phase && not (is_done want)) ≡ true
    → took_in phase want progress reference ≡ record progress { phase = Judging; held = held_after progress.held want reference }
asked_progress New (wants.Get t k) progress reference asking = refl
asked_progress New (wants.Track s t k) progress reference asking = refl
asked_progress New (wants.Look s) progress reference asking = refl
asked_progress New (wants.Count s a) progress reference asking = refl
asked_progress New (wants.Done v) progress reference asking = absurd (false≢true asking)
asked_progress Judging (wants.Get t k) progress reference asking = refl
asked_progress Judging (wants.Track s t k) progress reference asking = refl
asked_progress Judging (wants.Look s) progress reference asking = refl
asked_progress Judging (wants.Count s a) progress reference asking = refl
asked_progress Judging (wants.Done v) progress reference asking = absurd (false≢true asking)
asked_progress Admitted want progress reference asking = absurd (false≢true asking)
asked_progress Rejected want progress reference asking = absurd (false≢true asking)
asked_progress Ended want progress reference asking = absurd (false≢true asking)

-- what the rules don't ask is an act
act_counted : (phase : Phase) (want : Want) (progress : Progress Reference) (reference : Option Reference) → (is_judged phase && not (is_done want)) ≡ false → took_in phase want progress reference ≡ record progress { counted = progress.counted + 1 }
act_counted New (wants.Done v) progress reference asking = refl
act_counted New (wants.Get t k) progress reference asking = absurd (false≢true (sym asking))
act_counted New (wants.Track s t k) progress reference asking = absurd (false≢true (sym asking))
act_counted New (wants.Look s) progress reference asking = absurd (false≢true (sym asking))
act_counted New (wants.Count s a) progress reference asking = absurd (false≢true (sym asking))
act_counted Judging (wants.Done v) progress reference asking = refl
act_counted Judging (wants.Get t k) progress reference asking = absurd (false≢true (sym asking))
act_counted Judging (wants.Track s t k) progress reference asking = absurd (false≢true (sym asking))
act_counted Judging (wants.Look s) progress reference asking = absurd (false≢true (sym asking))
act_counted Judging (wants.Count s a) progress reference asking = absurd (false≢true (sym asking))
act_counted Admitted want progress reference asking = refl
act_counted Rejected want progress reference asking = refl
act_counted Ended want progress reference asking = refl

pub took_lived : (connection : Connection Reference) (answer : Answer) (reference : Option Reference) → IsLived connection
    → tables_of (held_after connection.progress.held (asks connection) reference) ≡ slots_after (tables_of connection.progress.held) (asks connection) answer → IsLived (took connection answer reference)
unfolding took_of
took_lived connection answer reference lived heard = by (is_asking (asks connection) connection.progress) refl
  where
    free : took_of (asks connection) connection.progress reference ≡ took_in connection.progress.phase (asks connection) connection.progress reference
    free = ap (λ g. took_given g (asks connection) connection.progress reference) lived.given

    by : (b : Bool) → is_asking (asks connection) connection.progress ≡ b → IsLived (record connection { answers = if b then connection.answers ++ answer ∷ [] else connection.answers; progress = took_of (asks connection) connection.progress reference })
    by true asking =
        let later : Progress Reference = record connection.progress { phase = Judging; held = held_after connection.progress.held (asks connection) reference } in
        let is : later ≡ took_of (asks connection) connection.progress reference = sym (free ∙ asked_progress connection.progress.phase (asks connection) connection.progress reference asking) in
        let before : tables_of connection.progress.held ≡ slots_by connection.setup connection.samples connection.answers = lived.tracks (first (is_judged connection.progress.phase) (not (is_done (asks connection))) asking) in
        let made : IsLived (record connection { answers = connection.answers ++ answer ∷ []; progress = later }) = record {
          tracks = λ judged. heard ∙ ap (λ s. slots_after s (asks connection) answer) before ∙ sym (slots_more (next connection.setup connection.samples) Rattle.rule_eval.specs.Slots.no_slots connection.answers answer);
          accepted = λ at. cc;
          given = lived.given;
        } in
        subst (λ (p : Progress Reference). IsLived (record connection { answers = connection.answers ++ answer ∷ []; progress = p })) is made
      where
        first : (a b : Bool) → (a && b) ≡ true → a ≡ true
        first true b both = refl
        first false b both = absurd (false≢true both)
    by false asking =
        let later : Progress Reference = record connection.progress { counted = connection.progress.counted + 1 } in
        let is : later ≡ took_of (asks connection) connection.progress reference = sym (free ∙ act_counted connection.progress.phase (asks connection) connection.progress reference asking) in
        let made : IsLived (record connection { progress = later }) = record { tracks = lived.tracks; accepted = lived.accepted; given = lived.given } in
        subst (λ (p : Progress Reference). IsLived (record connection { progress = p })) is made

-- ---- a refusal

skipped_lived : (connection : Connection Reference) (wanted : Need) → IsLived connection → IsLived (record connection { progress = skipped wanted connection.progress })
skipped_lived connection wanted lived =
    subst (λ (p : Progress Reference). IsLived (record connection { progress = p })) (sym (skipped_leaves wanted connection.progress)) (record { tracks = lived.tracks; accepted = lived.accepted; given = lived.given })

pub refused_lived : (connection : Connection Reference) → IsLived connection → IsLived (refused connection None)
unfolding refused_of
refused_lived connection lived =
    let free : refused_before (is_asking (asks connection) connection.progress) (need connection) connection.progress ≡ refused_of (asks connection) connection.progress None = sym (ap (λ g. refused_given g (asks connection) connection.progress None) lived.given) in
    subst (λ (p : Progress Reference). IsLived (record connection { progress = p })) free (by (is_asking (asks connection) connection.progress))
  where
    by : (b : Bool) → IsLived (record connection { progress = refused_before b (need connection) connection.progress })
    by true = record { tracks = λ judged. absurd (false≢true judged); accepted = λ at. cc; given = lived.given }
    by false = skipped_lived connection (need connection) lived

-- ---- a turn

by_verdict : (want : Want) → (phase_by want ≡ Admitted → want ≡ wants.Done Accept) × (is_judged (phase_by want) ≡ false)
by_verdict (wants.Done Accept) = (λ at. refl, refl)
by_verdict (wants.Done Reject) = (λ at. cc, refl)
by_verdict (wants.Get table key) = (λ at. cc, refl)
by_verdict (wants.Track slot table key) = (λ at. cc, refl)
by_verdict (wants.Look slot) = (λ at. cc, refl)
by_verdict (wants.Count slot act) = (λ at. cc, refl)

turned_phase : (phase : Phase) (want : Want) → (phase_after phase want ≡ Admitted → want ≡ wants.Done Accept) × (is_judged (phase_after phase want) ≡ false)
turned_phase New want = by_verdict want
turned_phase Judging want = by_verdict want
turned_phase Admitted want = (λ at. cc, refl)
turned_phase Rejected want = (λ at. cc, refl)
turned_phase Ended want = (λ at. cc, refl)

pub turned_lived : (connection : Connection Reference) → IsLived connection → IsLived (turned connection)
turned_lived connection lived =
    let later = turned_phase connection.progress.phase (asks connection) in
    record { tracks = λ judged. absurd (false≢true (sym later.1 ∙ judged)); accepted = later.0; given = lived.given }

-- ---- a reference given back

counts : (o : Option (Slot × Act)) (slot : Slot) → counting o needs.Turn ≡ needs.Release slot → ⊥
counts None slot is = cc
counts (Some entry) slot is = cc

judging_keeps : (want : Want) (progress : Progress Reference) (slot : Slot) → judging want progress ≡ needs.Release slot → ⊥
judging_keeps (wants.Done Accept) progress slot is = counts (slice_get (sessions (holding progress.held)) progress.counted) slot is
judging_keeps (wants.Done Reject) progress slot is = cc
judging_keeps (wants.Get t k) progress slot is = cc
judging_keeps (wants.Track s t k) progress slot is = cc
judging_keeps (wants.Look s) progress slot is = cc
judging_keeps (wants.Count s a) progress slot is = cc

-- only behind the verdict
release_in : (phase : Phase) (want : Want) (progress : Progress Reference) (slot : Slot) → need_in phase want progress ≡ needs.Release slot → is_judged phase ≡ false
release_in New want progress slot is = absurd (judging_keeps want progress slot is)
release_in Judging want progress slot is = absurd (judging_keeps want progress slot is)
release_in Admitted want progress slot is = refl
release_in Rejected want progress slot is = refl
release_in Ended want progress slot is = refl

-- it is as it was, but for what the slot held
pub released_as : (connection : Connection Reference) (slot : Slot) (entry : ℕ × Reference) → IsLived connection → need connection ≡ needs.Release slot → held_at connection.progress.held slot ≡ Some entry
    → (took (gave connection) answers.Released None ≡ record connection { progress = record connection.progress { held = held_with connection.progress.held slot None; given = None } }) × (is_judged connection.progress.phase ≡ false)
unfolding took_of need_of
released_as connection slot entry lived is at =
    let given : gave connection ≡ record connection { progress = gave_at slot (Some entry) connection.progress } =
    ap (λ w. record connection { progress = gave_of w connection.progress }) is ∙ ap (λ o. record connection { progress = gave_at slot o connection.progress }) at in
    let judged : is_judged connection.progress.phase ≡ false = release_in connection.progress.phase (asks connection) connection.progress slot (sym (ap (λ g. need_given g (asks connection) connection.progress) lived.given) ∙ is) in
    let later : Progress Reference = record connection.progress { held = held_with connection.progress.held slot None; given = None } in
    let same : took (record connection { progress = gave_at slot (Some entry) connection.progress }) answers.Released None ≡ record connection { progress = later } =
    ap (λ b. record connection { answers = if (b && not (is_done (asks connection))) then connection.answers ++ answers.Released ∷ [] else connection.answers; progress = later }) judged in
    (ap (λ (c : Connection Reference). took c answers.Released None) given ∙ same, judged)

pub released_lived : (connection : Connection Reference) (slot : Slot) (entry : ℕ × Reference) → IsLived connection → need connection ≡ needs.Release slot → held_at connection.progress.held slot ≡ Some entry
    → IsLived (took (gave connection) answers.Released None)
released_lived connection slot entry lived is at =
    let as_it_was = released_as connection slot entry lived is at in
    let later : Progress Reference = record connection.progress { held = held_with connection.progress.held slot None; given = None } in
    let made : IsLived (record connection { progress = later }) = record { tracks = λ still. absurd (false≢true (sym as_it_was.1 ∙ still)); accepted = lived.accepted; given = refl } in
    subst IsLived (sym as_it_was.0) made
