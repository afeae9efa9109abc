-- Where a connection can be once nothing moves it.
use Rattle.std.proofs.Common.{◌≡◌, ℕ, zero, suc, refl, sym, ap, subst, ◌∙◌, Bool, true, false, Option, Some, None, List, [], ◌∷◌, ◌⊎◌, inl, inr}
use Rattle.std.proofs.lemmas.Bool.{false≢true}
use Rattle.stored_data.specs.declared.act.Act.{Act}
use Rattle.rule_model.specs.declared.actions.Slot.{Slot}
use Rattle.rule_eval.specs.declared.wants.Answer.{Answer}
use Rattle.rule_eval.specs.declared.wants.Answer.TheVariants.{Released}
use Rattle.rule_eval.specs.declared.wants.Verdict.TheVariants.{Accept, Reject}
use Rattle.rule_eval.specs.declared.wants.Want.{Want}
use Rattle.rule_eval.specs.declared.wants.Want.TheVariants as wants
use Rattle.stick_model.specs.declared.replies.Reply.{Reply}
use Rattle.stick_model.specs.declared.replies.Reply.TheVariants as replies
use Rattle.admit_core.specs.Connection.{Connection, Progress, asks, closing, counting, gave, gave_at, gave_of, heard as heard_by, is_asking, judging, leaving, need, need_given, need_in, need_of, refused, refused_before, refused_given, refused_of, skipped, took, took_given, took_in, took_of}
use Rattle.admit_core.specs.Held.{held_at, holding}
use Rattle.admit_core.specs.declared.need.Need.{Need}
use Rattle.admit_core.specs.declared.need.Need.TheVariants as needs
use Rattle.admit_core.specs.declared.need.Phase.{Phase}
use Rattle.admit_core.specs.declared.need.Phase.TheVariants.{New, Judging, Admitted, Rejected, Ended}
use Rattle.admit_drive.specs.Calls.{call_of, heard, reference_of}
use Rattle.admit_port.specs.Calls.{answer_of}
use Rattle.admit_core.specs.Left.{is_still}
use Rattle.admit_drive.specs.Moves.{Goes, Makes, MovesBy}
use Rattle.admit_drive.specs.Tables.{TableState}
use Rattle.shard_port.specs.declared.reference.Reference.{Reference}
use Rattle.admit_core.proofs.SkippedLemmas.{skipped_leaves}

-- ---- one that is still

-- what is to be counted is wanted, and then what comes next
moves_on : (act : Option (Slot × Act)) (other : Need) → is_still other ≡ false → is_still (counting act other) ≡ false
moves_on None other moves = moves
moves_on (Some entry) other moves = refl

leaves_on : (slots : List Slot) → is_still (leaving slots) ≡ false
leaves_on [] = refl
leaves_on (slot ∷ more) = refl

judges_on : {R : Type 0} (want : Want) (progress : Progress R) → is_still (judging want progress) ≡ false
judges_on (wants.Get table key) progress = refl
judges_on (wants.Track slot table key) progress = refl
judges_on (wants.Look slot) progress = refl
judges_on (wants.Count slot act) progress = refl
judges_on (wants.Done Accept) progress = moves_on _ needs.Turn refl
judges_on (wants.Done Reject) progress = refl

-- it rests, and waits to be closed; or it has ended
abbrev pub IsAtRest : {R : Type 0} → Progress R → Type 0
IsAtRest progress = (progress.phase ≡ Ended) ⊎ ((progress.phase ≡ Admitted) × (progress.bytes ≡ None))

still_closing : {R : Type 0} (progress : Progress R) (bytes : Option (ℕ × ℕ)) → is_still (closing bytes progress) ≡ true → bytes ≡ None
still_closing progress None still = refl
still_closing progress (Some bytes) still = absurd (false≢true (sym (moves_on _ (leaving (holding progress.held)) (leaves_on (holding progress.held))) ∙ still))

still_in : {R : Type 0} (want : Want) (progress : Progress R) (phase : Phase) → is_still (need_in phase want progress) ≡ true → (phase ≡ Ended) ⊎ ((phase ≡ Admitted) × (progress.bytes ≡ None))
still_in want progress New still = absurd (false≢true (sym (judges_on want progress) ∙ still))
still_in want progress Judging still = absurd (false≢true (sym (judges_on want progress) ∙ still))
still_in want progress Admitted still = inr (refl, still_closing progress progress.bytes still)
still_in want progress Rejected still = absurd (false≢true (sym (leaves_on (holding progress.held)) ∙ still))
still_in want progress Ended still = inl refl

pub still_rests : {R : Type 0} (connection : Connection R) → connection.progress.given ≡ None → is_still (need connection) ≡ true → IsAtRest connection.progress
unfolding need_of
still_rests connection given still =
    still_in (asks connection) connection.progress connection.progress.phase (subst (λ g. is_still (need_given g (asks connection) connection.progress) ≡ true) given still)

-- ---- its bytes stay

heard_bytes : {R : Type 0} (want : Want) (progress : Progress R) (reference : Option R) → (heard_by want progress reference).bytes ≡ progress.bytes
heard_bytes (wants.Get table key) progress reference = refl
heard_bytes (wants.Track slot table key) progress reference = refl
heard_bytes (wants.Look slot) progress reference = refl
heard_bytes (wants.Count slot act) progress reference = refl
heard_bytes (wants.Done verdict) progress reference = refl

took_in-bytes : {R : Type 0} (phase : Phase) (want : Want) (progress : Progress R) (reference : Option R) → (took_in phase want progress reference).bytes ≡ progress.bytes
took_in-bytes New want progress reference = heard_bytes want progress reference
took_in-bytes Judging want progress reference = heard_bytes want progress reference
took_in-bytes Admitted want progress reference = refl
took_in-bytes Rejected want progress reference = refl
took_in-bytes Ended want progress reference = refl

took_given-bytes : {R : Type 0} (given : Option (Slot × ℕ)) (want : Want) (progress : Progress R) (reference : Option R) → (took_given given want progress reference).bytes ≡ progress.bytes
took_given-bytes None want progress reference = took_in-bytes progress.phase want progress reference
took_given-bytes (Some out) want progress reference = refl

took_bytes : {R : Type 0} (connection : Connection R) (answer : Answer) (reference : Option R) → (took connection answer reference).progress.bytes ≡ connection.progress.bytes
unfolding took_of
took_bytes connection answer reference = took_given-bytes connection.progress.given (asks connection) connection.progress reference

gave_at-bytes : {R : Type 0} (slot : Slot) (entry : Option (ℕ × R)) (progress : Progress R) → (gave_at slot entry progress).bytes ≡ progress.bytes
gave_at-bytes slot None progress = refl
gave_at-bytes slot (Some entry) progress = refl

gave_bytes : {R : Type 0} (wanted : Need) (progress : Progress R) → (gave_of wanted progress).bytes ≡ progress.bytes
gave_bytes (needs.Get table key) progress = refl
gave_bytes (needs.Track slot table key) progress = refl
gave_bytes (needs.Look slot) progress = refl
gave_bytes (needs.Count slot act) progress = refl
gave_bytes (needs.Release slot) progress = gave_at-bytes slot (held_at progress.held slot) progress
gave_bytes needs.Rest progress = refl
gave_bytes needs.Turn progress = refl
gave_bytes needs.Finished progress = refl

skipped_bytes : {R : Type 0} (wanted : Need) (progress : Progress R) → (skipped wanted progress).bytes ≡ progress.bytes
skipped_bytes wanted progress = ap (λ (p : Progress _). p.bytes) (skipped_leaves wanted progress)

before_bytes : {R : Type 0} (asking : Bool) (wanted : Need) (progress : Progress R) → (refused_before asking wanted progress).bytes ≡ progress.bytes
before_bytes true wanted progress = refl
before_bytes false wanted progress = skipped_bytes wanted progress

refused_given-bytes : {R : Type 0} (given : Option (Slot × ℕ)) (want : Want) (progress : Progress R) → (refused_given given want progress None).bytes ≡ progress.bytes
refused_given-bytes None want progress = before_bytes (is_asking want progress) (need_of want progress) progress
refused_given-bytes (Some out) want progress = refl

refused_bytes : {R : Type 0} (connection : Connection R) → (refused connection None).progress.bytes ≡ connection.progress.bytes
unfolding refused_of
refused_bytes connection = refused_given-bytes connection.progress.given (asks connection) connection.progress

heard_of-bytes : (connection : Connection Reference) (shard : ℕ) (reply : Reply) → (heard connection shard reply).progress.bytes ≡ connection.progress.bytes
heard_of-bytes connection shard replies.Released = took_bytes (gave connection) Released None ∙ gave_bytes (need connection) connection.progress
heard_of-bytes connection shard replies.Absent = took_bytes connection (answer_of replies.Absent) (reference_of shard replies.Absent)
heard_of-bytes connection shard (replies.Row row) = took_bytes connection (answer_of (replies.Row row)) (reference_of shard (replies.Row row))
heard_of-bytes connection shard replies.NoRefs = took_bytes connection (answer_of replies.NoRefs) (reference_of shard replies.NoRefs)
heard_of-bytes connection shard replies.Full = took_bytes connection (answer_of replies.Full) (reference_of shard replies.Full)
heard_of-bytes connection shard (replies.Tracked ticket row) = took_bytes connection (answer_of (replies.Tracked ticket row)) (reference_of shard (replies.Tracked ticket row))
heard_of-bytes connection shard (replies.Value value) = took_bytes connection (answer_of (replies.Value value)) (reference_of shard (replies.Value value))
heard_of-bytes connection shard (replies.NotSettable datum) = took_bytes connection (answer_of (replies.NotSettable datum)) (reference_of shard (replies.NotSettable datum))
heard_of-bytes connection shard (replies.NotStored datum) = took_bytes connection (answer_of (replies.NotStored datum)) (reference_of shard (replies.NotStored datum))
heard_of-bytes connection shard (replies.Written created) = took_bytes connection (answer_of (replies.Written created)) (reference_of shard (replies.Written created))
heard_of-bytes connection shard replies.InUse = took_bytes connection (answer_of replies.InUse) (reference_of shard replies.InUse)
heard_of-bytes connection shard replies.Removed = took_bytes connection (answer_of replies.Removed) (reference_of shard replies.Removed)
heard_of-bytes connection shard (replies.Cleared removed kept) = took_bytes connection (answer_of (replies.Cleared removed kept)) (reference_of shard (replies.Cleared removed kept))
heard_of-bytes connection shard (replies.Rows used rows) = took_bytes connection (answer_of (replies.Rows used rows)) (reference_of shard (replies.Rows used rows))
heard_of-bytes connection shard (replies.Expired count) = took_bytes connection (answer_of (replies.Expired count)) (reference_of shard (replies.Expired count))

moves_by-bytes : (now : ℕ) (old : List TableState) (connection : Connection Reference) (wanted : Need) (new : List TableState) (after : Connection Reference) (was_refused : Bool)
    → MovesBy now old connection wanted new after was_refused → after.progress.bytes ≡ connection.progress.bytes
moves_by-bytes now old connection needs.Rest new after was_refused moves = ap (λ (c : Connection Reference). c.progress.bytes) moves.1
moves_by-bytes now old connection needs.Finished new after was_refused moves = ap (λ (c : Connection Reference). c.progress.bytes) moves.1
moves_by-bytes now old connection needs.Turn new after was_refused moves = ap (λ (c : Connection Reference). c.progress.bytes) moves.1
moves_by-bytes now old connection (needs.Get table key) new after false moves =
    elim (call_of connection.setup.shards now connection.progress.held (needs.Get table key)) as (λ call. Makes old connection call new after false → after.progress.bytes ≡ connection.progress.bytes) [
      | None ↦ λ makes. absurd makes
      | Some call ↦ λ makes. ap (λ (c : Connection Reference). c.progress.bytes) makes.2 ∙ heard_of-bytes connection call.shard makes.0
    ] moves
moves_by-bytes now old connection (needs.Get table key) new after true moves = ap (λ (c : Connection Reference). c.progress.bytes) moves.2 ∙ refused_bytes connection
moves_by-bytes now old connection (needs.Track slot table key) new after false moves =
    elim (call_of connection.setup.shards now connection.progress.held (needs.Track slot table key)) as (λ call. Makes old connection call new after false → after.progress.bytes ≡ connection.progress.bytes) [
      | None ↦ λ makes. absurd makes
      | Some call ↦ λ makes. ap (λ (c : Connection Reference). c.progress.bytes) makes.2 ∙ heard_of-bytes connection call.shard makes.0
    ] moves
moves_by-bytes now old connection (needs.Track slot table key) new after true moves = ap (λ (c : Connection Reference). c.progress.bytes) moves.2 ∙ refused_bytes connection
moves_by-bytes now old connection (needs.Look slot) new after false moves =
    elim (call_of connection.setup.shards now connection.progress.held (needs.Look slot)) as (λ call. Makes old connection call new after false → after.progress.bytes ≡ connection.progress.bytes) [
      | None ↦ λ makes. absurd makes
      | Some call ↦ λ makes. ap (λ (c : Connection Reference). c.progress.bytes) makes.2 ∙ heard_of-bytes connection call.shard makes.0
    ] moves
moves_by-bytes now old connection (needs.Look slot) new after true moves = ap (λ (c : Connection Reference). c.progress.bytes) moves.2 ∙ refused_bytes connection
moves_by-bytes now old connection (needs.Count slot act) new after false moves =
    elim (call_of connection.setup.shards now connection.progress.held (needs.Count slot act)) as (λ call. Makes old connection call new after false → after.progress.bytes ≡ connection.progress.bytes) [
      | None ↦ λ makes. absurd makes
      | Some call ↦ λ makes. ap (λ (c : Connection Reference). c.progress.bytes) makes.2 ∙ heard_of-bytes connection call.shard makes.0
    ] moves
moves_by-bytes now old connection (needs.Count slot act) new after true moves = ap (λ (c : Connection Reference). c.progress.bytes) moves.2 ∙ refused_bytes connection
moves_by-bytes now old connection (needs.Release slot) new after false moves =
    elim (call_of connection.setup.shards now connection.progress.held (needs.Release slot)) as (λ call. Makes old connection call new after false → after.progress.bytes ≡ connection.progress.bytes) [
      | None ↦ λ makes. absurd makes
      | Some call ↦ λ makes. ap (λ (c : Connection Reference). c.progress.bytes) makes.2 ∙ heard_of-bytes connection call.shard makes.0
    ] moves
moves_by-bytes now old connection (needs.Release slot) new after true moves = ap (λ (c : Connection Reference). c.progress.bytes) moves.2 ∙ refused_bytes connection

pub goes_bytes : (now count : ℕ) (old : List TableState) (connection : Connection Reference) (new : List TableState) (after : Connection Reference) → Goes now count old connection new after → after.progress.bytes ≡ connection.progress.bytes
goes_bytes now zero old connection new after goes = ap (λ (c : Connection Reference). c.progress.bytes) goes.1
goes_bytes now (suc count) old connection new after goes =
    goes_bytes now count goes.0 goes.1 new after goes.4 ∙ moves_by-bytes now old connection (need connection) goes.0 goes.1 goes.2 goes.3
