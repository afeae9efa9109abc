-- A connection: what it wants next, one event at a time, and what answers, refusals and turns make of it.
use Rattle.std.specs.Prelude.{ℕ, ◌+◌, Bool, true, false, not, ◌&&◌, List, [], ◌∷◌, ◌++◌, map, slice_get, Option, Some, None, is_some, if◌then◌else◌}
use Rattle.std.specs.Option.{option_map}
use Rattle.stored_data.specs.declared.act.Act.{Act}
use Rattle.stored_data.specs.declared.act.Act.TheVariants as acts
use Rattle.rule_model.specs.declared.actions.Slot.{Slot}
use Rattle.rule_model.specs.declared.sections.Setup.{Setup}
use Rattle.rule_eval.specs.Left.{is_done}
use Rattle.rule_eval.specs.Memory.{kind_takes_memory}
use Rattle.rule_eval.specs.Tables.{kind_of}
use Rattle.rule_eval.specs.Verdict.{next}
use Rattle.rule_eval.specs.declared.wants.Answer.{Answer}
use Rattle.rule_eval.specs.declared.wants.Answer.TheVariants as answers
use Rattle.rule_eval.specs.declared.wants.Samples.{Samples}
use Rattle.rule_eval.specs.declared.wants.Verdict.TheVariants.{Accept, Reject}
use Rattle.rule_eval.specs.declared.wants.Want.{Want}
use Rattle.rule_eval.specs.declared.wants.Want.TheVariants as wants
use Rattle.admit_core.specs.Held.{held_at, held_with, holding, nothing_held}
use Rattle.admit_core.specs.declared.held.Held.{Held}
use Rattle.admit_core.specs.declared.need.Need.{Need}
use Rattle.admit_core.specs.declared.need.Need.TheVariants.{Get, Track, Look, Count, Release, Rest, Turn, Finished}
use Rattle.admit_core.specs.declared.need.Phase.{Phase}
use Rattle.admit_core.specs.declared.need.Phase.TheVariants.{New, Judging, Admitted, Rejected, Ended}

-- how far a connection is, apart from what its rules ask
pub record Progress (R : Type 0) : Type 0 where
  pub phase : Phase
  -- once it was closed, the bytes that came in and went out
  pub bytes : Option (ℕ × ℕ)
  -- how many acts were counted since the verdict, or since it was closed
  pub counted : ℕ
  pub held : Held R
  -- the slot and the table of a reference that was handed out to be released
  pub given : Option (Slot × ℕ)

-- whose rules judge it, and the answers to what they asked so far
pub record Connection (R : Type 0) : Type 0 where
  pub setup : Setup
  pub samples : Samples
  pub answers : List Answer
  pub progress : Progress R

abbrev pub begun : {R : Type 0} → Progress R
begun = record { phase = New; bytes = None; counted = 0; held = nothing_held; given = None }

-- a connection that has just come
abbrev pub arrived : {R : Type 0} → Setup → Samples → Connection R
arrived setup samples = record { setup = setup; samples = samples; answers = []; progress = begun }

-- what its rules ask next, or their verdict
abbrev pub asks : {R : Type 0} → Connection R → Want
asks connection = next connection.setup connection.samples connection.answers

-- ---- what is counted

-- one session for each slot that holds a reference
abbrev pub sessions : List Slot → List (Slot × Act)
sessions slots = map (λ slot. (slot, acts.Session)) slots

-- for each slot the bytes that came in, then those that went out
abbrev pub bytes_of : ℕ → ℕ → List Slot → List (Slot × Act)
bytes_of bytes_in bytes_out [] = []
bytes_of bytes_in bytes_out (slot ∷ more) = (slot, acts.BytesIn bytes_in) ∷ (slot, acts.BytesOut bytes_out) ∷ bytes_of bytes_in bytes_out more

-- ---- what it wants, where its rules ask this

-- an act is wanted where one is left to be counted
abbrev pub counting : Option (Slot × Act) → Need → Need
counting None other = other
counting (Some entry) other = Count entry.0 entry.1

-- the release of the first reference that it holds; without one, its next phase
abbrev pub leaving : List Slot → Need
leaving [] = Turn
leaving (slot ∷ more) = Release slot

-- once the rules accept it the sessions are counted, and once they reject it nothing is
abbrev pub judging : {R : Type 0} → Want → Progress R → Need
judging (wants.Get table key) progress = Get table key
judging (wants.Track slot table key) progress = Track slot table key
judging (wants.Look slot) progress = Look slot
judging (wants.Count slot act) progress = Count slot act
judging (wants.Done Accept) progress = counting (slice_get (sessions (holding progress.held)) progress.counted) Turn
judging (wants.Done Reject) progress = Turn

-- once it is closed its bytes are counted, and then its references go back
abbrev pub closing : {R : Type 0} → Option (ℕ × ℕ) → Progress R → Need
closing None progress = Rest
closing (Some bytes) progress = counting (slice_get (bytes_of bytes.0 bytes.1 (holding progress.held)) progress.counted) (leaving (holding progress.held))

abbrev pub need_in : {R : Type 0} → Phase → Want → Progress R → Need
need_in New want progress = judging want progress
need_in Judging want progress = judging want progress
need_in Admitted want progress = closing progress.bytes progress
need_in Rejected want progress = leaving (holding progress.held)
need_in Ended want progress = Finished

-- a reference that was handed out is to be released
abbrev pub need_given : {R : Type 0} → Option (Slot × ℕ) → Want → Progress R → Need
need_given None want progress = need_in progress.phase want progress
need_given (Some out) want progress = Release out.0

unfoldable pub need_of : {R : Type 0} → Want → Progress R → Need
need_of want progress = need_given progress.given want progress

-- whether it is an event
abbrev pub is_event : Need → Bool
is_event Rest = false
is_event Turn = false
is_event Finished = false
is_event other = true

-- only a key that is a text takes memory; once there is a verdict none is wanted
abbrev pub need_takes_memory : Setup → Need → Bool
need_takes_memory setup (Get table key) = kind_takes_memory (kind_of setup table)
need_takes_memory setup (Track slot table key) = kind_takes_memory (kind_of setup table)
need_takes_memory setup other = false

-- whether it wants a reference for a slot that holds one
abbrev pub wants_held : {R : Type 0} → Held R → Need → Bool
wants_held held (Track slot table key) = is_some (held_at held slot)
wants_held held other = false

-- ---- what an answer makes of it

-- whether it is what a need may be answered, a reference exactly with `Tracked`
abbrev pub answers_need : {R : Type 0} → Need → Answer → Option R → Bool
answers_need (Get table key) (answers.Row row) None = true
answers_need (Get table key) answers.Absent None = true
answers_need (Track slot table key) answers.Tracked (Some reference) = true
answers_need (Track slot table key) answers.Untracked None = true
answers_need (Look slot) (answers.Row row) None = true
answers_need (Count slot act) (answers.Value value) None = true
answers_need (Release slot) answers.Released None = true
answers_need need answer reference = false

-- one act more is counted, or skipped
abbrev pub counted : {R : Type 0} → Progress R → Progress R
counted progress = record progress { counted = progress.counted + 1 }

-- what is held with a reference that the rules asked for
abbrev pub held_after : {R : Type 0} → Held R → Want → Option R → Held R
held_after held (wants.Track slot table key) (Some reference) = held_with held slot (Some (table, reference))
held_after held want reference = held

-- the answer is one to the rules; or an act was counted, once there is a verdict
abbrev pub heard : {R : Type 0} → Want → Progress R → Option R → Progress R
heard (wants.Done verdict) progress reference = counted progress
heard want progress reference = record progress { phase = Judging; held = held_after progress.held want reference }

abbrev pub took_in : {R : Type 0} → Phase → Want → Progress R → Option R → Progress R
took_in New want progress reference = heard want progress reference
took_in Judging want progress reference = heard want progress reference
took_in other want progress reference = counted progress

-- a reference that was handed out is gone with its release
abbrev pub took_given : {R : Type 0} → Option (Slot × ℕ) → Want → Progress R → Option R → Progress R
took_given None want progress reference = took_in progress.phase want progress reference
took_given (Some out) want progress reference = record progress { given = None }

unfoldable pub took_of : {R : Type 0} → Want → Progress R → Option R → Progress R
took_of want progress reference = took_given progress.given want progress reference

-- whether its rules are asking: it is judged, and there is no verdict yet
abbrev pub is_judged : Phase → Bool
is_judged New = true
is_judged Judging = true
is_judged other = false

abbrev pub is_asking : {R : Type 0} → Want → Progress R → Bool
is_asking want progress = is_judged progress.phase && not (is_done want)

-- ---- what a refusal makes of it

-- after the verdict a count is skipped, and a release is wanted again
abbrev pub skipped : {R : Type 0} → Need → Progress R → Progress R
skipped (Count slot act) progress = counted progress
skipped other progress = progress

-- before the verdict it is rejected
abbrev pub refused_before : {R : Type 0} → Bool → Need → Progress R → Progress R
refused_before true need progress = record progress { phase = Rejected }
refused_before false need progress = skipped need progress

-- a reference that was handed out is held again
abbrev pub refused_given : {R : Type 0} → Option (Slot × ℕ) → Want → Progress R → Option R → Progress R
refused_given None want progress reference = refused_before (is_asking want progress) (need_of want progress) progress
refused_given (Some out) want progress None = progress
refused_given (Some out) want progress (Some reference) = record progress { held = held_with progress.held out.0 (Some (out.1, reference)); given = None }

unfoldable pub refused_of : {R : Type 0} → Want → Progress R → Option R → Progress R
refused_of want progress reference = refused_given progress.given want progress reference

-- ---- turns

-- accepted or rejected by the verdict, and ended at last
abbrev pub phase_by : Want → Phase
phase_by (wants.Done Accept) = Admitted
phase_by want = Rejected

abbrev pub phase_after : Phase → Want → Phase
phase_after New want = phase_by want
phase_after Judging want = phase_by want
phase_after other want = Ended

abbrev pub turned_of : {R : Type 0} → Want → Progress R → Progress R
turned_of want progress = record progress { phase = phase_after progress.phase want }

-- it is closed, with these bytes to be counted
abbrev pub closed_of : {R : Type 0} → Progress R → ℕ → ℕ → Progress R
closed_of progress bytes_in bytes_out = record progress { bytes = Some (bytes_in, bytes_out); counted = 0 }

-- ---- releases

abbrev pub is_release : Need → Bool
is_release (Release slot) = true
is_release other = false

-- the reference of a slot is handed out, to be released
abbrev pub gave_at : {R : Type 0} → Slot → Option (ℕ × R) → Progress R → Progress R
gave_at slot None progress = progress
gave_at slot (Some entry) progress = record progress { held = held_with progress.held slot None; given = Some (slot, entry.0) }

abbrev pub gave_of : {R : Type 0} → Need → Progress R → Progress R
gave_of (Release slot) progress = gave_at slot (held_at progress.held slot) progress
gave_of other progress = progress

-- the reference that is to be released
abbrev pub released_of : {R : Type 0} → Need → Progress R → Option R
released_of (Release slot) progress = option_map (λ entry. entry.1) (held_at progress.held slot)
released_of other progress = None

-- ---- of a connection

abbrev pub need : {R : Type 0} → Connection R → Need
need connection = need_of (asks connection) connection.progress

abbrev pub took : {R : Type 0} → Connection R → Answer → Option R → Connection R
took connection answer reference = record connection {
  answers = if is_asking (asks connection) connection.progress then connection.answers ++ answer ∷ [] else connection.answers;
  progress = took_of (asks connection) connection.progress reference;
}

abbrev pub refused : {R : Type 0} → Connection R → Option R → Connection R
refused connection reference = record connection { progress = refused_of (asks connection) connection.progress reference }

abbrev pub turned : {R : Type 0} → Connection R → Connection R
turned connection = record connection { progress = turned_of (asks connection) connection.progress }

abbrev pub closed : {R : Type 0} → Connection R → ℕ → ℕ → Connection R
closed connection bytes_in bytes_out = record connection { progress = closed_of connection.progress bytes_in bytes_out }

abbrev pub gave : {R : Type 0} → Connection R → Connection R
gave connection = record connection { progress = gave_of (need connection) connection.progress }
